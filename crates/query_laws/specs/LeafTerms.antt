-- Cited by the clauses of the laws of this crate: terms that apply run-time functions of a design alone, at the widths that
-- these are declared with.
use Rattle.std.specs.Prelude.{◌≡◌, ℕ, Bool, true, Some}
use Rattle.std.specs.List.{AllZip}
use Rattle.cocoon_num.specs.Tree.{Role, Design}
use Rattle.cocoon_resolve.specs.Readers.{all_widths}
use Rattle.cocoon_types.specs.Design.{role_at, widths_of}
use Rattle.bv_terms.specs.TermTrees.{Term}
use Rattle.obligation_laws.specs.Shown.{HasWidth}
use Rattle.query_laws.specs.Over.{IsOver}
use Rattle.obligation_laws.specs.Leaves.{Leaf, end_fields, end_role, end_values}

-- no input is ruled out
abbrev pub any_input : ℕ → ℕ → Bool
any_input i w = true

-- each application in the term is of a run-time function of the design, at its widths
abbrev pub AppliesDeclared : Design → Term → Type 0
AppliesDeclared d t = IsOver d any_input t

-- the term is of this width, and so are its applications
abbrev pub Stands : Design → ℕ → Term → Type 0
Stands d w t = HasWidth w t × AppliesDeclared d t

-- the terms of a leaf are such: the condition, the values of a role's parameters, and the fields
pub record LeafApplies (level : ℕ) (d : Design) (leaf : Leaf) : Type 0 where
  pub role : Role
  pub cond : Stands d 1 leaf.cond
  pub declared : role_at level d (end_role leaf.end) ≡ Some role
  pub values : AllZip (Stands d) (widths_of role.params) (end_values leaf.end)
  pub fields : AllZip (Stands d) (all_widths d.headers) (end_fields leaf.end)
