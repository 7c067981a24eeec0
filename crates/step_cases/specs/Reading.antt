-- Cited by private clauses: the parts of a case.
use Rattle.std.specs.Prelude.{◌≡◌, ℕ, ◌+◌, List, Option, Some, None, option_and_then, Result, Ok, Err, Vec, slice_get}
use Rattle.std.specs.declared.alloc.Global.{Global}
use Rattle.cocoon_num.specs.Tokens.{kept_if}
use Rattle.cocoon_num.specs.Tree.{Design}
use Rattle.cocoon_types.specs.Design.{role_at}
use Rattle.cocoon_types.specs.Runs.{Loc}
use Rattle.text_lines.specs.LineOf.{line_of}
use Rattle.text_lines.specs.Lines.{Line as line}
use Rattle.text_lines.specs.declared.lines.Line.{Line}
use Rattle.declarations.specs.Declares.{role_number}
use Rattle.step_cases.specs.Agrees.{IsAt}
use Rattle.step_cases.specs.Cases.{may_act}
use Rattle.step_cases.specs.declared.case.CaseFault.{CaseFault}
use Rattle.step_cases.specs.declared.case.CaseFault.TheVariants.{Form, NoMemory}
use Rattle.step_cases.specs.declared.lines.Location.{Location}

-- the answer of the code is that of the definitions, where there was memory
abbrev pub AnswersAs : {X Y : Type 0} → (Y → X → Type 0) → Result X ℕ → Result Y CaseFault → Type 0
AnswersAs R answer (Ok y) = (x : _) × (answer ≡ Ok x) × R y x
AnswersAs R answer (Err (Form line)) = answer ≡ Err line
AnswersAs R answer (Err NoMemory) = Unit {0}

abbrev pub AreNumbers : Vec ℕ Global → List ℕ → Type 0
AreNumbers v ns = v.items ≡ ns

abbrev pub IsLocation : Design → Location → Loc → Type 0
IsLocation d found at = IsAt d found.role found.values.items at

-- the location that was found is this one
abbrev pub Locates : Design → Option Loc → Option Location → Type 0
Locates d at None = at ≡ None
Locates d at (Some found) = (loc : Loc) × (at ≡ Some loc) × IsLocation d found loc

-- the role with these values may act at the level, and has this number
abbrev pub ActsAs : Design → (level : ℕ) → (name values : List ℕ) → Option ℕ → Type 0
ActsAs d level name values None =
    option_and_then (λ role. kept_if (may_act role values) name) (role_at level d name) ≡ None
ActsAs d level name values (Some number) =
    (option_and_then (λ role. kept_if (may_act role values) name) (role_at level d name) ≡ Some name)
    × (role_number d name ≡ Some number)

-- the line of this index is this one
abbrev pub LineIs : List line → (count index : ℕ) → Result Line CaseFault → Type 0
LineIs lines count index (Ok l) = slice_get lines index ≡ Some (line_of l)
LineIs lines count index (Err (Form n)) = (slice_get lines index ≡ None) × (n ≡ count + 1)
LineIs lines count index (Err NoMemory) = ⊥

-- there is no such line, or it is this one
abbrev pub NoLine : Option ℕ → Result (Unit {0}) CaseFault → Type 0
NoLine number (Ok done) = number ≡ None
NoLine number (Err (Form line)) = number ≡ Some line
NoLine number (Err NoMemory) = ⊥
