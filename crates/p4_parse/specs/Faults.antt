-- The first fault of a P4 text. Clauses of `parse` cite it.
use Rattle.std.specs.Prelude.{List}
use Rattle.cocoon_num.specs.Tokens.{Kind}
use Rattle.p4_ir.specs.P4Text.{p4_bounds}
use Rattle.p4_texts.specs.Written.{BeginsP4}
use Rattle.parsing.specs.Faults as faults
use Rattle.parsing.specs.declared.fault.ParseFault.{ParseFault}

-- it is the first fault of these tokens; out of memory is told of any
abbrev pub IsFirstFault : List Kind → ParseFault → Type 0
IsFirstFault ks fault = faults.IsFirstFault p4_bounds BeginsP4 ks fault
