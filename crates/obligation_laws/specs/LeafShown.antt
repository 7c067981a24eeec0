-- Cited by the clauses of the law `leaves_have_values`: values of a leaf's terms under some definitions, for given inputs.
use Rattle.std.specs.Prelude.{◌≡◌, ℕ, Bool, Some}
use Rattle.std.specs.List.{AllZip}
use Rattle.cocoon_num.specs.Tree.{Role, Design}
use Rattle.cocoon_num.specs.Values.{truth}
use Rattle.cocoon_resolve.specs.Readers.{all_widths}
use Rattle.cocoon_types.specs.Design.{role_at, widths_of}
use Rattle.cocoon_types.specs.Tables.{Defs}
use Rattle.bv_terms.specs.TermTrees.{Term}
use Rattle.bv_terms.specs.TermValues.{Functions, Inputs, term_number, term_value}
use Rattle.obligation_laws.specs.Shown.{HasNumber, functions_by}
use Rattle.obligation_laws.specs.Leaves.{Leaf, end_fields, end_role, end_values}

-- the term is true or false
abbrev pub IsTruth : Functions → Inputs → Term → Type 0
IsTruth F ins t = (b : Bool) × (term_value F ins t ≡ term_number (Some (truth b)))

-- the condition is a truth value, the values are numbers of the widths of a role's parameters, and the fields those of the
-- design's
pub record LeafShown (d : Design) (defs : Defs) (ins : Inputs) (level : ℕ) (leaf : Leaf) : Type 0 where
  pub cond : IsTruth (functions_by d defs) ins leaf.cond
  pub role : Role
  pub declared : role_at level d (end_role leaf.end) ≡ Some role
  pub values : AllZip (HasNumber (functions_by d defs) ins) (widths_of role.params) (end_values leaf.end)
  pub fields : AllZip (HasNumber (functions_by d defs) ins) (all_widths d.headers) (end_fields leaf.end)
