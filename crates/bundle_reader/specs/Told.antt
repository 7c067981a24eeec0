-- Faults that hold the fault of a layer below. A clause of `read_bundle` cites it, and so do those of its parts.
use Rattle.std.specs.Prelude.{◌≡◌}
use Rattle.cocoon_io.specs.declared.folder.FolderFault.TheVariants.{TooLong, NoMemory as Wanting}
use Rattle.net_bundle.specs.Writing.{most_of}
use Rattle.p4_read.specs.declared.fault.P4Fault.TheVariants.{NoMemory as Wanting-P4}
use Rattle.p4_run.specs.declared.faults.LoadFault.TheVariants.{NoMemory as Wanting-rows}
use Rattle.bundle_reader.specs.declared.fault.ReadFault.{ReadFault}
use Rattle.bundle_reader.specs.declared.fault.ReadFault.TheVariants.{Folder, P4, Load}

-- the fault that is held is never that there was no memory, and that of a file that is too long has the number of bytes that
-- it may have, of whatever folder
abbrev pub IsTold : ReadFault → Type 0
IsTold (Folder file (TooLong most)) = most ≡ most_of file
IsTold (Folder file Wanting) = ⊥
IsTold (P4 file Wanting-P4) = ⊥
IsTold (Load file Wanting-rows) = ⊥
IsTold _ = Unit {0}
