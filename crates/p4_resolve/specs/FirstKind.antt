-- The first fault of kind of a text. The clauses of `resolve` and of `read` cite it.
use Rattle.std.specs.Prelude.{◌≡◌, ℕ, List, [], ◌∷◌, Option, Some, None}
use Rattle.p4_texts.specs.KindFaults.{kind_faults}
use Rattle.p4_texts.specs.Written.{ProgramText}
use Rattle.p4_resolve.specs.declared.fault.KindFault.{KindFault}
use Rattle.p4_resolve.specs.declared.fault.KindFault.TheVariants.{Kind, NoMemory}

abbrev pub first_of : List ℕ → Option ℕ
first_of [] = None
first_of (i ∷ is) = Some i

-- it is the first; out of memory is told of any text
abbrev pub IsFirstKind : ProgramText → KindFault → Type 0
IsFirstKind t (Kind i) = first_of (kind_faults t) ≡ Some i
IsFirstKind t NoMemory = Unit {0}
