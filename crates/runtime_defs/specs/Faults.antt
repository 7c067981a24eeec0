-- Cited by the clauses of `first_fault` and `bind`: the fault of definitions that a fault of the code stands for. It
-- follows the section "Definitions" of docs/LANGUAGE.md.
use Rattle.std.specs.Prelude.{◌≡◌, List, Option, Some, None, option_map, slice_get}
use Rattle.cocoon_num.specs.Tree.{FunctionDecl, Design, DefsText}
use Rattle.cocoon_num.specs.Lists.{first_of}
use Rattle.cocoon_types.specs.Design.{functions}
use Rattle.cocoon_types.specs.DefsRules as rules
use Rattle.runtime_defs.specs.declared.fault.DefsFault.{DefsFault}
use Rattle.runtime_defs.specs.declared.fault.DefsFault.TheVariants.{UnknownFunction, WrongRow, TwoDefaults, NoDefault, GuardRows, ForkRows, Limit, NoMemory}

-- the fault by the rules of definitions; a function that has no default is told by its number
abbrev pub fault_of : Design → DefsFault → Option rules.DefsFault
fault_of d (UnknownFunction at) = Some (rules.unknown_function at)
fault_of d (WrongRow at) = Some (rules.wrong_row at)
fault_of d (TwoDefaults at) = Some (rules.two_defaults at)
fault_of d (NoDefault n) = option_map (λ (f : FunctionDecl). rules.no_default f.name.text) (slice_get (functions d) n)
fault_of d (GuardRows at) = Some (rules.guard_rows at)
fault_of d (ForkRows at) = Some (rules.fork_rows at)
fault_of d (Limit n) = None
fault_of d NoMemory = None

-- the first of some faults, or none where there is none
abbrev pub IsFirst : Design → List rules.DefsFault → Option DefsFault → Type 0
IsFirst d faults fault = option_map (fault_of d) fault ≡ option_map Some (first_of faults)

-- the fault that is reported of definitions, or none
abbrev pub FirstFault : Design → DefsText → Option DefsFault → Type 0
FirstFault d es = IsFirst d (rules.defs_faults d es)
