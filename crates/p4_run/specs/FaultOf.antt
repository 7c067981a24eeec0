-- Cited by the clauses of loading: the faults of the definitions that those of the code stand for. Being out of memory is none.
use Rattle.std.specs.Prelude.{◌≡◌, Option, Some, None}
use Rattle.p4_run.specs.Faults as faults
use Rattle.p4_run.specs.declared.faults.LoadFault.{LoadFault}
use Rattle.p4_run.specs.declared.faults.LoadFault.TheVariants.{MissingTable, UnknownTable, RowShape, GroupShape, NoMemory}

abbrev pub fault_of : LoadFault → Option faults.Fault
fault_of (MissingTable number) = Some (faults.missing_table number)
fault_of (UnknownTable number) = Some (faults.unknown_table number)
fault_of (RowShape table row) = Some (faults.row_shape table row)
fault_of (GroupShape index) = Some (faults.group_shape index)
fault_of NoMemory = None

-- it is the first fault; out of memory is told of any rows
abbrev pub IsFault : LoadFault → Option faults.Fault → Type 0
IsFault NoMemory first = Unit {0}
IsFault (MissingTable number) first = first ≡ Some (faults.missing_table number)
IsFault (UnknownTable number) first = first ≡ Some (faults.unknown_table number)
IsFault (RowShape table row) first = first ≡ Some (faults.row_shape table row)
IsFault (GroupShape index) first = first ≡ Some (faults.group_shape index)
