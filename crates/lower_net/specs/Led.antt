-- Cited by private clauses of `led`: the locations from which wires lead.
use Rattle.std.specs.Prelude.{◌≡◌, ℕ, List, Some}
use Rattle.cocoon_num.specs.Tree.{Role, Design}
use Rattle.cocoon_types.specs.Design.{last_level, role_at}
use Rattle.cocoon_types.specs.Runs.{Loc}
use Rattle.declarations.specs.Declares.{role_number}

-- the location of a role's name and values
abbrev pub loc_at : List ℕ → List ℕ → Loc
loc_at role values = record { role = role; values = values }

-- the role of this name has this number, and is declared at the last level
pub record IsDeclared (d : Design) (name : List ℕ) (n : ℕ) : Type 0 where
  pub number : role_number d name ≡ Some n
  pub role : Role
  pub declared : role_at (last_level d) d name ≡ Some role
