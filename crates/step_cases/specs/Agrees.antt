-- Cited by `read_case`: the case of the definitions that one of the code stands for.
use Rattle.std.specs.Prelude.{◌≡◌, ℕ, List, Some, Ok, Err}
use Rattle.cocoon_num.specs.Tree.{Design}
use Rattle.cocoon_types.specs.Runs.{Loc}
use Rattle.cocoon_num.specs.PacketForms.{FieldsFit}
use Rattle.cocoon_resolve.specs.Readers.{field_widths, HasRole}
use Rattle.declarations.specs.Declares.{role_number}
use Rattle.step_cases.specs.Cases as spec
use Rattle.step_cases.specs.declared.case.Case.{Case}
use Rattle.step_cases.specs.declared.case.CaseFault.{CaseFault}
use Rattle.step_cases.specs.declared.case.CaseFault.TheVariants.{Form, NoMemory}

-- the number of its role and its values are those of a location
pub record IsAt (d : Design) (role : ℕ) (values : List ℕ) (at : Loc) : Type 0 where
  pub role_is : role_number d at.role ≡ Some role
  pub values_are : values ≡ at.values

pub record StandsFor (d : Design) (c : Case) (of : spec.Case) : Type 0 where
  pub at : IsAt d c.role c.values.items of.at
  pub fields : c.fields.items ≡ of.fields
  pub choices : c.choices.items ≡ of.choices

-- a body can be run from the case: its role is there at the level, and its fields are those of a packet
pub record CanRun (level : ℕ) (d : Design) (c : Case) : Type 0 where
  pub role : HasRole d c.role level
  pub fields : FieldsFit (field_widths d) c.fields.items

-- the bytes are this case
abbrev pub IsCaseOf : (level : ℕ) → Design → List ℕ → Case → Type 0
IsCaseOf level d bytes c = (of : spec.Case) × (spec.case_of level d bytes ≡ Ok of) × StandsFor d c of

-- the bytes are none, by this line
abbrev pub IsFaultOf : (level : ℕ) → Design → List ℕ → CaseFault → Type 0
IsFaultOf level d bytes (Form line) = spec.case_of level d bytes ≡ Err line
IsFaultOf level d bytes NoMemory = Unit {0}
