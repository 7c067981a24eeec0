-- The first fault of a text of designs or definitions. Private clauses of what reads whole texts cite it.
use Rattle.std.specs.Prelude.{List}
use Rattle.cocoon_num.specs.Tokens.{Kind, language_bounds}
use Rattle.parsing.specs.Faults as faults
use Rattle.parsing.specs.declared.fault.ParseFault.{ParseFault}

-- the fault is the first of these tokens
abbrev pub IsFirstFault : (List Kind → Type 0) → List Kind → ParseFault → Type 0
IsFirstFault Begins ts fault = faults.IsFirstFault language_bounds Begins ts fault
