-- Cited by the clauses of `Scopes`, and of all that looks variables up: the width of a variable in scope, by its name.
use Rattle.std.specs.Prelude.{ℕ, List, Option, option_map}
use Rattle.cocoon_num.specs.Tree.{Name, Param}
use Rattle.cocoon_num.specs.Names.{named}

-- a variable of a width
abbrev pub variable : Name → ℕ → Param
variable x w = record { name = x; width = w }

-- the width of the first variable of this name
abbrev pub width_in : List Param → List ℕ → Option ℕ
width_in vars x = option_map (λ (p : Param). p.width) (named (λ (p : Param). p.name) x vars)
