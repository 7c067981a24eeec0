-- Cited by the clauses of `inline` and `body_tree`: trees with too many leaves.
use Rattle.std.specs.Prelude.{◌≡◌, ℕ, ◌<◌, List, Some}
use Rattle.cocoon_num.specs.Tree.{Design}
use Rattle.cocoon_types.specs.Limits.{reported}
use Rattle.declarations.specs.Declares.{role_number}
use Rattle.obligation_gen.specs.declared.tree.InlineFault.{InlineFault}
use Rattle.obligation_gen.specs.declared.tree.InlineFault.TheVariants.{Paths, NoMemory}

-- more are a fault
abbrev pub most_leaves : ℕ
most_leaves = 4096

-- the fault tells the count, which is too large
abbrev pub TellsCount : ℕ → InlineFault → Type 0
TellsCount count (Paths n) = (n ≡ reported count) × (most_leaves < count)
TellsCount count NoMemory = Unit {0}

-- this holds of the name of the role of this number
abbrev pub OfRole : Design → (role : ℕ) → (List ℕ → Type 0) → Type 0
OfRole d role P = (name : List ℕ) → role_number d name ≡ Some role → P name
