-- Cited by the clauses of the laws here: what is told of an obligation, and the formulas that are expected of three designs.
use Rattle.std.specs.Prelude.{ℕ, List, map}
use Rattle.bv_terms.specs.declared.node.TermOp.TheVariants.{And, Concat, Equal, Less}
use Rattle.bv_terms.specs.TermTrees.{Term, apply, arg, binary, constant, input, no_args, not_, slice}
use Rattle.obligation_laws.specs.Obligations.{Kind, Obligation}
use Rattle.obligation_laws.specs.States.{NewInput}

-- its level, its role, the number of its leaf, what is owed, and the numbers of parameters, fields and choices
abbrev pub Told : Type 0
Told = ℕ × List ℕ × ℕ × Kind × List ℕ × List ℕ × List ℕ

abbrev pub numbers : List NewInput → List ℕ
numbers is = map (λ (i : NewInput). i.number) is

abbrev pub told : Obligation → Told
told o = (o.level, o.role, o.number, o.kind, numbers o.args, numbers o.fields, numbers o.leaf.choices)

abbrev pub and_of : Term → Term → Term
and_of a b = binary And a b

abbrev pub equal_to : Term → Term → Term
equal_to a b = binary Equal a b

-- ---- the designs r and w: s and p are the inputs 0 and 1, the tag is the input 2

abbrev pub port : ℕ → Term
port n = constant 16 n

-- g(s) and p < 4
abbrev pub may_stand : Term → Term
may_stand p = and_of (apply 1 (arg (input 0 16) no_args) 1) (binary Less p (port 4))

abbrev pub tag_is_1 : Term
tag_is_1 = equal_to (input 2 8) (constant 8 1)

-- The leaf sends to one port where the tag is tested so, and the body above to another: the guards of both, and that s, the
-- ports and the tag are equal.
abbrev pub switch_formula : (tested old_port new_port : Term) → Term
switch_formula tested old_port new_port =
    and_of (and_of (and_of (may_stand (input 1 16)) tested) (may_stand new_port))
    (not_ (and_of (and_of (and_of (and_of (may_stand (input 1 16)) (may_stand old_port))
    (equal_to (input 0 16) (input 0 16))) (equal_to old_port new_port)) (equal_to (input 2 8) (input 2 8))))

-- ---- the design m: the host that sends is the input 0, the source and the destination are the inputs 1 and 2

abbrev pub own : Term
own = input 0 32

abbrev pub src : Term
src = input 1 32

abbrev pub dst : Term
dst = input 2 32

abbrev pub is_host : Term → Term
is_host t = apply 0 (arg t no_args) 1

abbrev pub allowed : Term
allowed = apply 1 (arg src (arg dst no_args)) 1

abbrev pub switch_of : Term → Term
switch_of t = apply 3 (arg t no_args) 16

abbrev pub port_of : Term → Term
port_of t = apply 4 (arg t no_args) 16

abbrev pub is_port : Term → Term
is_port p = and_of (apply 2 (arg (switch_of own) no_args) 1) (binary Less p (constant 16 4))

abbrev pub host_at : Term → Term
host_at p = apply 5 (arg (switch_of own) (arg p no_args)) 32

abbrev pub m_formula : Term
m_formula =
    and_of (and_of (and_of (and_of (and_of (and_of (and_of (is_host own) (is_port (port_of own)))
    (equal_to src (host_at (port_of own)))) allowed)
    (and_of (is_host dst) (equal_to (switch_of dst) (switch_of own)))) (is_port (port_of dst))) (is_host (host_at (port_of dst))))
    (not_ (and_of (and_of (and_of (and_of (and_of (is_host own) (and_of (equal_to src own) allowed)) (is_host dst))
    (equal_to dst (host_at (port_of dst)))) (equal_to src src)) (equal_to dst dst)))

-- ---- the design of three levels: the first level may choose where a packet goes, and it goes by its destination, input 1

abbrev pub goes_by_destination : Term
goes_by_destination =
    and_of (and_of (and_of (apply 0 (arg (input 0 8) no_args) 1) (apply 1 (arg (input 1 8) no_args) 1)) (apply 0 (arg (input 1 8) no_args) 1))
    (not_ (and_of (and_of (and_of (apply 0 (arg (input 0 8) no_args) 1) (apply 0 (arg (input 1 8) no_args) 1))
    (equal_to (input 1 8) (input 1 8))) (equal_to (input 1 8) (input 1 8))))

-- and through the switch, whose ports are the destinations, input 6
abbrev pub through_the_port : Term
through_the_port = slice (binary Concat (constant 8 0) (input 6 8)) 7 0

abbrev pub is_place : Term → Term
is_place p = and_of (apply 2 (arg (constant 16 1) no_args) 1) (binary Less p (constant 16 256))

abbrev pub goes_through_the_switch : Term
goes_through_the_switch =
    and_of (and_of (and_of (and_of (and_of (apply 0 (arg (input 5 8) no_args) 1) (is_place (constant 16 0)))
    (apply 1 (arg (input 6 8) no_args) 1)) (is_place (binary Concat (constant 8 0) (input 6 8)))) (apply 0 (arg through_the_port no_args) 1))
    (not_ (and_of (and_of (and_of (and_of (apply 0 (arg (input 5 8) no_args) 1) (apply 1 (arg (input 6 8) no_args) 1))
    (apply 0 (arg (input 6 8) no_args) 1)) (equal_to (input 6 8) through_the_port)) (equal_to (input 6 8) (input 6 8))))
