-- Cited by the clauses of the laws here: the formula that is expected of the design q, the tables of one round, and the instance
-- that they break.
use Rattle.std.specs.Prelude.{ℕ, [], ◌∷◌}
use Rattle.bv_terms.specs.declared.node.TermOp.TheVariants.{And, Equal, Less, Or}
use Rattle.bv_terms.specs.TermTrees.{Term, apply, arg, binary, constant, input, no_args, not_, slice}
use Rattle.cnf_core.specs.declared.certificates.Instance.{Instance}

-- s and p are the inputs 0 and 1, the tag is the input 2

abbrev pub and_of : Term → Term → Term
and_of a b = binary And a b

abbrev pub equal_to : Term → Term → Term
equal_to a b = binary Equal a b

abbrev pub port : ℕ → Term
port n = constant 16 n

-- g(s) and p < 4
abbrev pub may_stand : Term → Term
may_stand p = and_of (apply 1 (arg (input 0 16) no_args) 1) (binary Less p (port 4))

abbrev pub q_of : Term → Term
q_of t = apply 2 (arg t no_args) 1

abbrev pub last_bit : Term
last_bit = slice (input 2 8) 0 0

-- q gives one value at the last bit of the tag and at its opposite
abbrev pub is_one_value : Term
is_one_value = equal_to (q_of last_bit) (q_of (not_ last_bit))

-- the body above sends to this port where it is tested so, and to the port 1 with the same tag
abbrev pub sends_above : (tested : Term) → (old_port : Term) → Term
sends_above tested old_port =
    and_of (and_of (and_of (and_of (and_of (may_stand (input 1 16)) tested) (may_stand old_port))
    (equal_to (input 0 16) (input 0 16))) (equal_to old_port (port 1))) (equal_to (input 2 8) (input 2 8))

abbrev pub q_formula : Term
q_formula =
    and_of (and_of (may_stand (input 1 16)) (may_stand (port 1)))
    (not_ (binary Or (sends_above is_one_value (port 1)) (sends_above (not_ is_one_value) (port 2))))

-- the assumption at 0 and 1
abbrev pub zero_and_one : Instance
zero_and_one = record { number = 0; values = 0 ∷ 1 ∷ [] }
