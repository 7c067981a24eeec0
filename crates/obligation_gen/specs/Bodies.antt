-- Cited by private clauses: in what bodies run one after another, and the trees that come of it.
use Rattle.std.specs.Prelude.{◌≡◌, ℕ, Bool, false, List, Option, Some, None}
use Rattle.cocoon_num.specs.Tree.{Role, Design}
use Rattle.cocoon_syntax.specs.TreeOf.{design_of}
use Rattle.cocoon_types.specs.Design.{role_at}
use Rattle.refinement.specs.Segments.{is_new}
use Rattle.obligation_gen.specs.declared.hops.Hops.{Hops}

abbrev pub design_in : Hops → Design
design_in h = design_of h.world.checked.now

-- the roles that are new behind a level
abbrev pub new_behind : Option ℕ → Design → List ℕ → Bool
new_behind None d = λ r. false
new_behind (Some above) d = is_new above d

abbrev pub new_in : Hops → List ℕ → Bool
new_in h = new_behind h.above (design_in h)

-- the role is declared at the level
abbrev pub IsDeclared : Design → (level : ℕ) → List ℕ → Type 0
IsDeclared d level name = (r : Role) × (role_at level d name ≡ Some r)
