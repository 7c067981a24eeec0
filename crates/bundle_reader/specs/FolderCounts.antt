-- What a fault of reading says of the folder. The clauses of `read_bundle` cite it.
use Rattle.std.specs.Prelude.{◌≡◌, ℕ, List, Option}
use Rattle.cocoon_io.specs.Calls.{Rose}
use Rattle.cocoon_io.specs.declared.folder.FolderFault.TheVariants.{Failed}
use Rattle.net_bundle.specs.Bundle.{whole_name}
use Rattle.bundle_reader.specs.declared.fault.ReadFault.{ReadFault}
use Rattle.bundle_reader.specs.declared.fault.ReadFault.TheVariants.{Folder}

-- Where the folder failed, its count of failed reads rose; any other fault leaves the count.
abbrev pub ReadFaultRose : Option ℕ → (old new : ℕ) → ReadFault → Type 0
ReadFaultRose last old new (Folder file Failed) = Rose last old new
ReadFaultRose last old new _ = new ≡ old

-- Where the folder failed, its last call that failed was of this file.
abbrev pub NamesFailure : (List ℕ → Type 0) → (out : List ℕ) → ReadFault → Type 0
NamesFailure last_failure out (Folder file Failed) = last_failure (whole_name out file)
NamesFailure last_failure out _ = Unit {0}
