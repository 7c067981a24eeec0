-- Cited by the clauses of `read_file` and `read_network` in reading.rt. What is read of one file and of a bundle. Of a
-- folder whose content is not known the first says nothing.
use Rattle.std.specs.Prelude.{◌≡◌, ◌≤◌, ◌<◌, ℕ, List, length, Option, Some, None}
use Rattle.std.specs.FinMap.{get}
use Rattle.cocoon_io.specs.Files.{Files}
use Rattle.cocoon_io.specs.Calls.{Rose}
use Rattle.command_reports.specs.declared.files.CommandFile.{CommandFile}
use Rattle.command_reports.specs.declared.files.CommandFile.TheVariants.{Bundle}
use Rattle.command_reports.specs.declared.refusal.Refusal.{Refusal}
use Rattle.command_reports.specs.declared.refusal.Refusal.TheVariants.{ReadFault, WriteFault, TooLong, NoMemory, NoFile}
use Rattle.net_bundle.specs.Bundle.{whole_name}
use Rattle.net_bundle.specs.declared.file.BundleFile.{BundleFile}
use Rattle.bundle_reader.specs.Readings.{ContentFault, ContentReads}
use Rattle.net_run.specs.Nets.{net_in}
use Rattle.net_run.specs.declared.net.Net.{Net}
use Rattle.bundle_reader.specs.declared.fault.ReadFault.{ReadFault as ReadFaultOf}
use Rattle.command_reports.specs.Refusals.{unread_as}

-- the folder has the file, with at most so many bytes
abbrev pub HasFile : Option Files → List ℕ → ℕ → List ℕ → Type 0
HasFile None name most bytes = Unit {0}
HasFile (Some files) name most bytes = (get files name ≡ Some bytes) × (length bytes ≤ most)

-- the folder has no such file
abbrev pub LacksFile : Option Files → List ℕ → Type 0
LacksFile None name = Unit {0}
LacksFile (Some files) name = get files name ≡ None

-- the folder has the file, with more bytes
abbrev pub HasLongFile : Option Files → List ℕ → ℕ → Type 0
HasLongFile None name most = Unit {0}
HasLongFile (Some files) name most =
    (bytes : List ℕ) × (get files name ≡ Some bytes) × (most < length bytes)

-- why a file is not read
abbrev pub FileNotRead : Option Files → List ℕ → CommandFile → ℕ → Refusal → Type 0
FileNotRead content name file most (NoFile f) = (f ≡ file) × LacksFile content name
FileNotRead content name file most (TooLong f n) =
    (f ≡ file) × (n ≡ most) × HasLongFile content name most
FileNotRead content name file most (ReadFault f) = f ≡ file
FileNotRead content name file most NoMemory = Unit {0}
FileNotRead content name file most _ = ⊥

-- a read fault comes only where the count of read faults rose; with any other refusal the count stays
abbrev pub ReadFaultRose : Option ℕ → (old new : ℕ) → Refusal → Type 0
ReadFaultRose last old new (ReadFault file) = Rose last old new
ReadFaultRose last old new _ = new ≡ old

-- a read fault is about the file of the folder's last call that failed
abbrev pub NamesReadFailure : (List ℕ → Type 0) → List ℕ → Refusal → Type 0
NamesReadFailure last_failure name (ReadFault file) = last_failure name
NamesReadFailure last_failure name _ = Unit {0}

-- the folder has a bundle that gives this network
abbrev pub IsRead : Option Files → (out : List ℕ) → Net → Type 0
IsRead content out net = ContentReads content out (net_in net)

-- why a bundle is not read
abbrev pub IsUnread : Option Files → (out : List ℕ) → Refusal → Type 0
IsUnread content out r =
    (fault : ReadFaultOf) × ContentFault content out fault × (r ≡ unread_as fault)

-- a read fault is about the file of the bundle at which the folder's last call failed
abbrev pub NamesBundleFailure : (List ℕ → Type 0) → (out : List ℕ) → Refusal → Type 0
NamesBundleFailure last_failure out (ReadFault file) =
    (of : BundleFile) × (file ≡ Bundle of) × last_failure (whole_name out of)
NamesBundleFailure last_failure out (WriteFault file) = ⊥
NamesBundleFailure last_failure out _ = Unit {0}
