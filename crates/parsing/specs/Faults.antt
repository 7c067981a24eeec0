-- The first fault of a text, by where a reading of its tokens up to the first deep one stops. Clauses of `fault_of` and of
-- p4_parse cite it, and private clauses of cocoon_text.
use Rattle.std.specs.Prelude.{◌<◌, ◌^◌, ℕ, nat_lt, List, Option, Some, None, if◌then◌else◌}
use Rattle.cocoon_num.specs.FirstFaults as first
use Rattle.cocoon_num.specs.Tokens.{Bounds, Kind}
use Rattle.parsing.specs.declared.fault.ParseFault.{ParseFault}
use Rattle.parsing.specs.declared.fault.ParseFault.TheVariants as fault
use Rattle.parsing.specs.declared.stop.Stop.{Stop}
use Rattle.parsing.specs.declared.stop.Stop.TheVariants as stop

-- the fault is the first of these tokens; out of memory is told of any
abbrev pub IsFirstFault : Bounds → (List Kind → Type 0) → List Kind → ParseFault → Type 0
IsFirstFault bounds Begins ts (fault.Unexpected i) = first.Unexpected bounds Begins ts i
IsFirstFault bounds Begins ts (fault.TooDeep i) = first.TooDeep bounds Begins ts i
IsFirstFault bounds Begins ts fault.NoMemory = Unit {0}

-- a reading that stops past the first deep token has met no other fault
abbrev pub fault_of : Option ℕ → Stop → ParseFault
fault_of None (stop.Unexpected i) = fault.Unexpected i
fault_of (Some d) (stop.Unexpected i) = if nat_lt d i then fault.TooDeep d else fault.Unexpected i
fault_of deep stop.NoMemory = fault.NoMemory

-- the index of the token of a fault is one that faults have
abbrev pub IndexFits : ParseFault → Type 0
IndexFits (fault.Unexpected i) = i < 2 ^ 32
IndexFits (fault.TooDeep i) = i < 2 ^ 32
IndexFits fault.NoMemory = Unit {0}
