-- Cited by the clauses of `Net::new`: the first switch whose rows do not load into its program.
use Rattle.std.specs.Prelude.{◌≡◌, ℕ, List, [], ◌∷◌, Option, Some, None, option_map}
use Rattle.p4_ir.specs.NetTree.{SwitchFiles}
use Rattle.p4_run.specs.FaultOf.{fault_of}
use Rattle.p4_run.specs.Faults.{Fault, load_fault, or_else}
use Rattle.net_run.specs.declared.loading.NetFault.{NetFault}
use Rattle.net_run.specs.declared.loading.NetFault.TheVariants.{Load, NoMemory}

-- a fault, and the number of the switch
abbrev pub told_at : ℕ → Option Fault → Option (ℕ × Fault)
told_at number fault = option_map (λ f. (number, f)) fault

-- its number, and the first fault of its rows
abbrev pub first_load_fault : List SwitchFiles → Option (ℕ × Fault)
first_load_fault [] = None
first_load_fault (f ∷ fs) = or_else (told_at f.number (load_fault f.program f.rows)) (first_load_fault fs)

-- a fault tells the first; out of memory, which no fault of rows is here, is told of any
abbrev pub TellsFirst : NetFault → Option (ℕ × Fault) → Type 0
TellsFirst (Load number told) first = (fault : Fault) × (fault_of told ≡ Some fault) × (first ≡ Some (number, fault))
TellsFirst NoMemory first = Unit {0}
