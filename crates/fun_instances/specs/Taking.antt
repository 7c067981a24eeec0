-- Cited by the conditions of this crate: at what an assumption is taken.
use Rattle.std.specs.Prelude.{◌≡◌, ℕ, List, Some, slice_get}
use Rattle.std.specs.List.{AllZip}
use Rattle.cocoon_num.specs.PacketForms.{FieldsFit}
use Rattle.cocoon_num.specs.Tree.{AssumeDecl, Design}
use Rattle.cocoon_resolve.specs.Readers.{all_assumptions}
use Rattle.cocoon_types.specs.Design.{widths_of}
use Rattle.cocoon_types.specs.Tables.{Defs}
use Rattle.bv_terms.specs.TermTrees.{Term}
use Rattle.bv_terms.specs.TermValues.{Inputs}
use Rattle.obligation_laws.specs.Shown.{HasNumber, functions_by}

-- this holds of the assumption of this number, in the order of the text
abbrev pub OfAssumption : Design → (number : ℕ) → (AssumeDecl → Type 0) → Type 0
OfAssumption d i P = (a : AssumeDecl) → slice_get (all_assumptions d) i ≡ Some a → P a

-- one number for each parameter, which fits its width
abbrev pub NumbersFit : AssumeDecl → List ℕ → Type 0
NumbersFit a ns = FieldsFit (widths_of a.params) ns

-- one term for each parameter, which has a value of its width under these definitions
abbrev pub TermsFit : Design → Defs → Inputs → AssumeDecl → List Term → Type 0
TermsFit d defs ins a ts = AllZip (HasNumber (functions_by d defs) ins) (widths_of a.params) ts
