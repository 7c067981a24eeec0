-- Cited by the clauses of the law `leaves_are_counted` and by those of code that counts leaves: the number of a tree's
-- leaves, without a tree. It follows the section "Leaves" of docs/CLAUSES.md.
use Rattle.std.specs.Prelude.{ℕ, zero, suc, ◌+◌, Bool, List, [], ◌∷◌, ◌++◌, flat_map, filter_map, map, if◌then◌else◌, Option, Some, None}
use Rattle.cocoon_num.specs.Tree.{Stmt, if_, fork, send, Block, no_stmts, stmt, Role}

-- a way's end: nothing where it falls, or the role that it sends to
abbrev pub WayEnd : Type 0
WayEnd = Option (List ℕ)

-- a way that falls goes on
abbrev pub unless_ended : List WayEnd → WayEnd → List WayEnd
unless_ended more None = more
unless_ended more (Some r) = Some r ∷ []

abbrev pub those_ended : List WayEnd → List WayEnd
those_ended ends = flat_map (unless_ended []) ends

abbrev mutual
  -- the ends of the ways through a statement
  pub ends : Stmt → List WayEnd
  ends (if_ at e first second) = ends_in first ++ ends_in second
  ends (fork at x width e body) = those_ended (ends_in body)
  ends (send at r es) = Some r.text ∷ []
  ends _ = None ∷ []

  -- of those through a block
  pub ends_in : Block → List WayEnd
  ends_in no_stmts = None ∷ []
  ends_in (stmt x rest) = flat_map (unless_ended (ends_in rest)) (ends x)

-- the roles that the ways through the body of a role send to, where each role has this declaration
abbrev pub sends_of : (List ℕ → Option Role) → (role : List ℕ) → List (List ℕ)
sends_of roles role = elim (roles role) [
  | None ↦ []
  | Some r ↦ elim r.body [ None ↦ [] | Some b ↦ filter_map (λ e. e) (ends_in b) ]
]

abbrev pub sum_of : List ℕ → ℕ
sum_of [] = 0
sum_of (n ∷ ns) = n + sum_of ns

-- the number of leaves: one for each way that sends to a role that is not new, or with its last body, and for each other
-- way those of the role that it sends to
abbrev pub leaf_count : (List ℕ → Option Role) → (new : List ℕ → Bool) → (bodies : ℕ) → (role : List ℕ) → ℕ
leaf_count roles new zero role = 1
leaf_count roles new (suc k) role = sum_of (map (λ r. if new r then leaf_count roles new k r else 1) (sends_of roles role))
