-- Cited by the laws of `limits` and by the clause of `first_limit`.
-- The limits on a design, whatever rules it breaks: for each the counts that it bounds, in the order
-- of the text, and the most that a count may be; and the first limit that is exceeded, with its count. It follows the
-- section "Limits" of docs/LANGUAGE.md. Optional headers are absent.
use Rattle.std.specs.Prelude.{◌≡◌, ℕ, ◌+◌, ◌*◌, ◌-◌, ◌^◌, min, nat_lt, List, [], ◌∷◌, ◌++◌, map, filter_map, length, reverse, if◌then◌else◌, Option, Some, None}
use Rattle.cocoon_num.specs.declared.limit_name.LimitName.{LimitName}
use Rattle.cocoon_num.specs.declared.limit_name.LimitName.TheVariants as limit
use Rattle.cocoon_num.specs.Tree.{Name, Expr, name, field, lit, true_or_false, call, unary, binary, slice, pick, Exprs, no_exprs, expr, Stmt, let_, set_field, if_, filter, havoc_var, havoc_field, assume, fork, send, Block, no_stmts, stmt, Param, FunctionDecl, AssumeDecl, Role, SwitchDecl, Decl, an_assumption, Refine, HeaderDecl, Design}
use Rattle.cocoon_num.specs.Names.{same_name}
use Rattle.cocoon_num.specs.Packets.{total}
use Rattle.cocoon_types.specs.Design.{functions, as_switch, all_decls}
use Rattle.cocoon_types.specs.Sites.{params_of}
use Rattle.cocoon_types.specs.RuleParts.{has_name, role_names, roles_of}

-- ---- ways through a body

-- how many ways through some statements end in them, and how many go on
pub record Ways : Type 0 where
  pub ended : ℕ
  pub going : ℕ

-- one way, which goes on
abbrev pub one_going : Ways
one_going = record { ended = 0; going = 1 }

-- one way, which ends
abbrev pub one_ended : Ways
one_ended = record { ended = 1; going = 0 }

-- how many ways there are
abbrev pub all_ways : Ways → ℕ
all_ways a = a.ended + a.going

-- the ways of two branches
abbrev pub either : Ways → Ways → Ways
either a b = record { ended = a.ended + b.ended; going = a.going + b.going }

-- a way that goes on does so in each way of what follows
abbrev pub followed_by : Ways → Ways → Ways
followed_by a b = record { ended = a.ended + a.going * b.ended; going = a.going * b.going }

-- nothing goes on after a `fork`: a way that falls off the end of its block has ended, too
abbrev pub all_end : Ways → Ways
all_end a = record { ended = all_ways a; going = 0 }

abbrev mutual
  -- the ways through a statement; what `filter` and `assume` drop is no way
  pub ways : Stmt → Ways
  ways (if_ at e a b) = either (ways_in a) (ways_in b)
  ways (fork at x w e b) = all_end (ways_in b)
  ways (send at r es) = one_ended
  ways _ = one_going

  -- the ways through a block
  pub ways_in : Block → Ways
  ways_in no_stmts = one_going
  ways_in (stmt first rest) = followed_by (ways first) (ways_in rest)

-- the ways through a body; one that falls off its end is one of them
abbrev pub path_count : Block → ℕ
path_count b = all_ways (ways_in b)

-- ---- nodes of a body

abbrev mutual
  -- the nodes of an expression, where those of a variable, and of a call by those of its arguments, are given
  pub nodes : (call_nodes : List ℕ → List ℕ → ℕ) → (var_nodes : List ℕ → ℕ) → Expr → ℕ
  nodes c v (name at x) = v x
  nodes c v (field at h f) = 1
  nodes c v (lit at w n) = 1
  nodes c v (true_or_false at b) = 1
  nodes c v (call at f es) = c f.text (nodes_of c v es)
  nodes c v (unary at op a) = 1 + nodes c v a
  nodes c v (binary at op a b) = 1 + nodes c v a + nodes c v b
  nodes c v (slice at a high low) = 1 + nodes c v a
  nodes c v (pick at x a b) = 1 + nodes c v x + nodes c v a + nodes c v b

  -- the same of some expressions
  pub nodes_of : (call_nodes : List ℕ → List ℕ → ℕ) → (var_nodes : List ℕ → ℕ) → Exprs → List ℕ
  nodes_of c v no_exprs = []
  nodes_of c v (expr e es) = nodes c v e ∷ nodes_of c v es

-- the nodes of a parameter are those of its argument; any other variable is one
abbrev pub argument_nodes : List Param → List ℕ → List ℕ → ℕ
argument_nodes (p ∷ ps) (n ∷ ns) x = if same_name x p.name.text then n else argument_nodes ps ns x
argument_nodes _ _ x = 1

-- The nodes of a call: where the function has a body, those of its body with the arguments in place of the parameters,
-- and else one more than those of the arguments. The function is the first of these of that name, and sees those after it.
abbrev pub call_nodes : List FunctionDecl → List ℕ → List ℕ → ℕ
call_nodes [] f ns = 1 + total ns
call_nodes (d ∷ earlier) f ns =
    if same_name f d.name.text then
    elim d.body [
      | None ↦ 1 + total ns
      | Some e ↦ nodes (call_nodes earlier) (argument_nodes d.params ns) e
    ]
    else call_nodes earlier f ns

-- the nodes of an expression of a body
abbrev pub expr_nodes : List FunctionDecl → Expr → ℕ
expr_nodes fs e = nodes (call_nodes fs) (λ x. 1) e

-- the nodes of some expressions of a body
abbrev pub exprs_nodes : List FunctionDecl → Exprs → ℕ
exprs_nodes fs es = total (nodes_of (call_nodes fs) (λ x. 1) es)

abbrev mutual
  -- a statement is a node beside those of its expressions and its blocks
  pub stmt_nodes : List FunctionDecl → Stmt → ℕ
  stmt_nodes fs (let_ at x w e) = 1 + expr_nodes fs e
  stmt_nodes fs (set_field at h f e) = 1 + expr_nodes fs e
  stmt_nodes fs (if_ at e a b) = 1 + expr_nodes fs e + block_nodes fs a + block_nodes fs b
  stmt_nodes fs (filter at e) = 1 + expr_nodes fs e
  stmt_nodes fs (havoc_var at x w) = 1
  stmt_nodes fs (havoc_field at h f) = 1
  stmt_nodes fs (assume at e) = 1 + expr_nodes fs e
  stmt_nodes fs (fork at x w e b) = 1 + expr_nodes fs e + block_nodes fs b
  stmt_nodes fs (send at r es) = 1 + exprs_nodes fs es

  -- the nodes of a block
  pub block_nodes : List FunctionDecl → Block → ℕ
  block_nodes fs no_stmts = 0
  block_nodes fs (stmt first rest) = stmt_nodes fs first + block_nodes fs rest

-- ---- the counts

-- the declaration where it is an assumption
abbrev pub as_assumption : Decl → Option AssumeDecl
as_assumption d = elim d [ an_assumption a ↦ Some a | _ ↦ None ]

-- how many names neither stand earlier among these nor are among those seen
abbrev pub new_names : (seen : List Name) → List Name → ℕ
new_names seen [] = 0
new_names seen (n ∷ ns) = (if has_name n.text seen then 0 else 1) + new_names (n ∷ seen) ns

-- the bodies of the roles, of all levels
abbrev pub bodies : Design → List Block
bodies d = filter_map (λ (r : Role). r.body) (roles_of d)

-- The counts of a limit: one of the design, or one of each block, `switch`, list of parameters or body. The limits that are
-- tested elsewhere have none.
abbrev pub counts : Design → LimitName → List ℕ
counts d limit.Refines = length d.refines ∷ []
counts d limit.Within = map (λ (b : Refine). b.within) d.refines
counts d limit.Ports = map (λ (s : SwitchDecl). s.ports) (filter_map as_switch (all_decls d))
counts d limit.Roles = new_names [] (role_names (all_decls d)) ∷ []
counts d limit.Functions = length (functions d) ∷ []
counts d limit.Assumptions = length (filter_map as_assumption (all_decls d)) ∷ []
counts d limit.Params = map (λ (x : Decl). length (params_of x)) (all_decls d)
counts d limit.Headers = length d.headers ∷ []
counts d limit.Fields = total (map (λ (h : HeaderDecl). length h.fields) d.headers) ∷ []
counts d limit.Paths = map path_count (bodies d)
counts d limit.Expanded = map (block_nodes (reverse (functions d))) (bodies d)
counts d _ = []

-- the most that a count of it may be; 0 for a limit that is tested elsewhere
abbrev pub most : LimitName → ℕ
most limit.Refines = 16
most limit.Within = 12
most limit.Ports = 256
most limit.Roles = 64
most limit.Functions = 128
most limit.Assumptions = 64
most limit.Params = 8
most limit.Headers = 16
most limit.Fields = 64
most limit.Paths = 4096
most limit.Expanded = 65536
most _ = 0

-- ---- the first limit that is exceeded

-- the limits, in the order in which they are tested
abbrev pub limits : List LimitName
limits =
    limit.Refines ∷ limit.Within ∷ limit.Ports ∷ limit.Roles ∷ limit.Functions ∷ limit.Assumptions ∷ limit.Params
    ∷ limit.Headers ∷ limit.Fields ∷ limit.Paths ∷ limit.Expanded ∷ []

-- the first of some counts that is over a number
abbrev pub first_above : ℕ → List ℕ → Option ℕ
first_above m [] = None
first_above m (n ∷ ns) = if nat_lt m n then Some n else first_above m ns

-- the design is over a limit, and this count of it is the first that is
abbrev pub Over : Design → LimitName → ℕ → Type 0
Over d l n = first_above (most l) (counts d l) ≡ Some n

-- no count of a limit is over it
abbrev pub IsWithin : Design → LimitName → Type 0
IsWithin d l = first_above (most l) (counts d l) ≡ None

-- the design is within each of some limits
abbrev pub AreWithin : Design → List LimitName → Type 0
AreWithin d [] = Unit {0}
AreWithin d (l ∷ ls) = IsWithin d l × AreWithin d ls

-- the design is over a limit, by this first of its counts that is over it, and within all limits before
pub record FirstOver (d : Design) (l : LimitName) (n : ℕ) : Type 0 where
  pub before : List LimitName
  pub after : List LimitName
  pub order : limits ≡ before ++ (l ∷ after)
  pub within : AreWithin d before
  pub over : Over d l n

-- the design is within all limits
abbrev pub WithinLimits : Design → Type 0
WithinLimits d = AreWithin d limits

-- a count as it is reported
abbrev pub reported : ℕ → ℕ
reported n = min n (2 ^ 64 - 1)
