-- What is said of a folder's files where a bundle is read step by step. Private clauses of `reading`, `files` and `switches`
-- cite it; those of `read_wiring` and `read_certificates` cite `OfFiles`.
use Rattle.std.specs.Prelude.{◌≡◌, ℕ, List, Option, Some, None, Ok}
use Rattle.cocoon_io.specs.Files.{Files}
use Rattle.p4_ir.specs.NetTree.{SwitchFiles}
use Rattle.p4_run.specs.Faults.{load_fault}
use Rattle.net_bundle.specs.declared.file.BundleFile.{BundleFile}
use Rattle.json_forms.specs.declared.fault.FormFault.{FormFault}
use Rattle.json_forms.specs.declared.fault.FormFault.TheVariants as form
use Rattle.p4_read.specs.declared.fault.P4Fault.{P4Fault}
use Rattle.p4_read.specs.declared.fault.P4Fault.TheVariants.{NoMemory as Wanting-P4}
use Rattle.net_run.specs.declared.loading.NetFault.{NetFault}
use Rattle.net_run.specs.declared.loading.NetFault.TheVariants as net
use Rattle.json_forms.specs.Reading.{Answered}
use Rattle.net_bundle.specs.BundleNames.{digest_of}
use Rattle.net_bundle.specs.NetJson.{NetFile}
use Rattle.net_bundle.specs.Network.{SwitchesRead}
use Rattle.net_bundle.specs.RowsForm.{rows_form}
use Rattle.p4_ir.specs.NetOf.{rows_of}
use Rattle.net_bundle.specs.declared.file.BundleFile.TheVariants.{Rows}
use Rattle.bundle_reader.specs.Readings.{AllShort, Held, IsFirstFault, NetReads, ProgramReads, RowsRead, Turn, UpTo}
use Rattle.bundle_reader.specs.declared.fault.ReadFault.{ReadFault}
use Rattle.bundle_reader.specs.declared.fault.ReadFault.TheVariants.{Folder, Load, NotJson, P4, Shape, NoMemory}
use Rattle.bundle_reader.specs.declared.last_rows.LastRows.{LastRows}

-- ---- faults of layers below, at a file

abbrev pub formed_at : BundleFile → FormFault → ReadFault
formed_at file form.NotJson = NotJson file
formed_at file (form.Shape pointer) = Shape file pointer
formed_at file form.NoMemory = NoMemory

abbrev pub program_at : BundleFile → P4Fault → ReadFault
program_at file Wanting-P4 = NoMemory
program_at file fault = P4 file fault

abbrev pub loaded_at : NetFault → ReadFault
loaded_at (net.Load switch fault) = Load (Rows switch) fault
loaded_at net.NoMemory = NoMemory

-- ---- parts

-- what holds of the files of a folder, where they are known
abbrev pub OfFiles : Option Files → (Files → Type 0) → Type 0
OfFiles content Holds = (files : Files) → content ≡ Some files → Holds files

-- it is the first fault, where all files before this one are well
abbrev pub FaultAt : (out : List ℕ) → BundleFile → (kept : Option (List ℕ)) → ReadFault → Files → Type 0
FaultAt out file kept fault files = Turn files out file kept → IsFirstFault files out fault

-- it is the first fault of all files that have these bytes there, where all before are well
abbrev pub BytesFault : BundleFile → (bytes kept : List ℕ) → ReadFault → Type 0
BytesFault file bytes kept fault = (files : Files) (out : List ℕ) → Held files out file bytes → FaultAt out file (Some kept) fault files

-- it is about the bytes of a file, so no call of the folder failed
abbrev pub IsOfBytes : ReadFault → Type 0
IsOfBytes (Folder file fault) = ⊥
IsOfBytes (P4 file fault) = ⊥
IsOfBytes (Load file fault) = ⊥
IsOfBytes _ = Unit {0}

-- these bytes have this digest, and read as the rows
abbrev pub HoldsRows : (bytes kept : List ℕ) → LastRows → Type 0
HoldsRows bytes kept last = (digest_of bytes ≡ kept) × Answered rows_form bytes (Ok (rows_of last.rows))

-- the bytes that are held do so, with the digest that is
abbrev pub IsRead : LastRows → Type 0
IsRead last = HoldsRows last.bytes.items last.digest last

-- the same, if a file of rows was read
abbrev pub LastIsRead : Option LastRows → Type 0
LastIsRead None = Unit {0}
LastIsRead (Some last) = IsRead last

-- the files of a switch of this number, of which these digests are kept
abbrev pub SwitchWell : (out : List ℕ) → (number : ℕ) → (program rows : List ℕ) → SwitchFiles → Files → Type 0
SwitchWell out number program rows s files =
    ProgramReads files out number program s.program × RowsRead files out number rows s.rows × (load_fault s.program s.rows ≡ None)

-- it is the first fault, where all before the files of this switch are well
abbrev pub SwitchFault : (out : List ℕ) → (number : ℕ) → (program rows : List ℕ) → ReadFault → Files → Type 0
SwitchFault out number program rows fault files = UpTo files out number program rows → IsFirstFault files out fault

-- the files of all switches that the file of the network names
abbrev pub AllWell : (out : List ℕ) → NetFile → List SwitchFiles → Files → Type 0
AllWell out network switches files = SwitchesRead files out network.files network.switches switches × AllShort files out switches

-- it is the first fault, where the file of the network is well
abbrev pub SwitchesFault : (out : List ℕ) → NetFile → ReadFault → Files → Type 0
SwitchesFault out network fault files = NetReads files out network → IsFirstFault files out fault
