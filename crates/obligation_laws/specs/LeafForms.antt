-- Cited by the clauses of the laws `leaves_have_widths`, `leaves_end_by_role` and `inputs_ascend`: widths of a leaf's
-- terms, the kind of its end, and the numbers of inputs.
use Rattle.std.specs.Prelude.{◌≡◌, ℕ, suc, ◌≤◌, Bool, true, false, List, [], ◌∷◌, Some}
use Rattle.std.specs.List.{AllZip}
use Rattle.cocoon_num.specs.Tree.{Role, Design}
use Rattle.cocoon_resolve.specs.Readers.{all_widths}
use Rattle.cocoon_types.specs.Design.{role_at, widths_of}
use Rattle.obligation_laws.specs.Shown.{HasWidth}
use Rattle.obligation_laws.specs.States.{NewInput}
use Rattle.obligation_laws.specs.Leaves.{End, sent_to, inside, Leaf, end_fields, end_role, end_values}

-- the condition is a truth value, the values are those of the parameters of a role of the level, and the fields are those
-- of the design
pub record LeafFits (level : ℕ) (d : Design) (leaf : Leaf) : Type 0 where
  pub role : Role
  pub cond : HasWidth 1 leaf.cond
  pub declared : role_at level d (end_role leaf.end) ≡ Some role
  pub values : AllZip HasWidth (widths_of role.params) (end_values leaf.end)
  pub fields : AllZip HasWidth (all_widths d.headers) (end_fields leaf.end)

-- it ends inside, if its last role is new, and only then
abbrev pub EndsBy : (new : List ℕ → Bool) → End → Type 0
EndsBy new (sent_to role values fields) = new role ≡ false
EndsBy new (inside role values fields) = new role ≡ true

-- the numbers ascend, from the first on and below the last
abbrev pub Ascend : (first last : ℕ) → List NewInput → Type 0
Ascend first last [] = first ≤ last
Ascend first last (i ∷ is) = (first ≤ i.number) × Ascend (suc i.number) last is
