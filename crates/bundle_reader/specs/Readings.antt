-- What a folder's content reads as under a name: a network, or the first fault. The files of a bundle are read in this order:
-- that of the network, then the program and the rows of each switch. The clauses of `read_bundle` cite it. It follows "How a
-- bundle is read back" in docs/FORMATS.md.
use Rattle.std.specs.Prelude.{◌≡◌, ◌≢◌, ℕ, ◌≤◌, ◌<◌, List, [], ◌∷◌, ◌++◌, length, Option, Some, None, Ok}
use Rattle.std.specs.FinMap.{get}
use Rattle.cocoon_io.specs.Files.{Files}
use Rattle.cocoon_io.specs.declared.folder.FolderFault.TheVariants.{Failed, TooLong, NoMemory as Wanting}
use Rattle.p4_ir.specs.NetFits.{switch_numbers}
use Rattle.p4_ir.specs.NetTree.{NetData, SwitchFiles}
use Rattle.p4_ir.specs.P4Reads.{P4Reads}
use Rattle.p4_ir.specs.P4Tree as tree
use Rattle.p4_read.specs.FirstFault as p4
use Rattle.p4_read.specs.declared.fault.P4Fault.{P4Fault}
use Rattle.p4_read.specs.declared.fault.P4Fault.TheVariants.{NoMemory as Wanting-P4}
use Rattle.p4_run.specs.FaultOf.{fault_of}
use Rattle.p4_run.specs.Faults.{Fault, load_fault}
use Rattle.p4_run.specs.declared.faults.LoadFault.{LoadFault}
use Rattle.net_bundle.specs.Bundle.{whole_name}
use Rattle.net_bundle.specs.BundleNames.{digest_of, program_name, rows_name}
use Rattle.net_bundle.specs.NetJson.{KeptDigest, NetFile}
use Rattle.net_bundle.specs.Network as net
use Rattle.net_bundle.specs.Network.{SwitchesRead}
use Rattle.net_bundle.specs.Writing.{most_of}
use Rattle.net_bundle.specs.declared.file.BundleFile.{BundleFile}
use Rattle.net_bundle.specs.declared.file.BundleFile.TheVariants.{Program, Rows, Certificates, Network}
use Rattle.net_bundle.specs.NetForm.{net_form}
use Rattle.json_forms.specs.Reading.{Answered, Refused}
use Rattle.net_bundle.specs.RowsForm.{rows_form}
use Rattle.json_forms.specs.declared.fault.FormFault.{FormFault}
use Rattle.json_forms.specs.declared.fault.FormFault.TheVariants as form
use Rattle.bundle_reader.specs.declared.fault.ReadFault.{ReadFault}
use Rattle.bundle_reader.specs.declared.fault.ReadFault.TheVariants.{Missing, Folder, Stale, NotJson, P4, Shape, Load, NoMemory}

-- ---- files that are well

-- the file has these bytes, and no more than it may
abbrev pub Held : Files → (out : List ℕ) → BundleFile → (bytes : List ℕ) → Type 0
Held files out file bytes = (get files (whole_name out file) ≡ Some bytes) × (length bytes ≤ most_of file)

-- the file of the network is this
abbrev pub NetReads : Files → (out : List ℕ) → NetFile → Type 0
NetReads files out net = (text : List ℕ) × Held files out Network text × Answered net_form text (Ok net)

-- the program of a switch is this, and its file has this digest
abbrev pub ProgramReads : Files → (out : List ℕ) → ℕ → (digest : List ℕ) → tree.Program → Type 0
ProgramReads files out s digest program = (text : List ℕ) × Held files out (Program s) text × (digest_of text ≡ digest) × P4Reads text program

-- the rows of a switch are these, and their file has this digest
abbrev pub RowsRead : Files → (out : List ℕ) → ℕ → (digest : List ℕ) → tree.RowsFile → Type 0
RowsRead files out s digest rows = (text : List ℕ) × Held files out (Rows s) text × (digest_of text ≡ digest) × Answered rows_form text (Ok rows)

-- a file that is there has no more bytes than it may
abbrev pub IsShort : Files → (out : List ℕ) → BundleFile → Type 0
IsShort files out file = (bytes : List ℕ) → get files (whole_name out file) ≡ Some bytes → length bytes ≤ most_of file

-- and so have those of these switches
abbrev pub AllShort : Files → (out : List ℕ) → List SwitchFiles → Type 0
AllShort files out [] = Unit {0}
AllShort files out (s ∷ ss) = IsShort files out (Program s.number) × IsShort files out (Rows s.number) × AllShort files out ss

-- ---- networks

-- they give this network, and no file is longer than it may be
abbrev pub ReadsAs : Files → (out : List ℕ) → NetData → Type 0
ReadsAs files out n = net.Network files out n × IsShort files out Network × AllShort files out n.switches

-- ---- the turn of a file

-- The file of the network is well and names this switch, of whose program and rows these digests are kept; and the files of
-- the switches before it are well.
pub record UpTo (files : Files) (out : List ℕ) (s : ℕ) (program rows : List ℕ) : Type 0 where
  pub network : NetFile
  pub reads : NetReads files out network
  pub before : List SwitchFiles
  pub after : List ℕ
  pub numbers : network.switches ≡ switch_numbers before ++ s ∷ after
  pub first : List KeptDigest
  pub rest : List KeptDigest
  pub digests : network.files ≡ first ++ record { name = program_name s; digest = program } ∷ record { name = rows_name s; digest = rows } ∷ rest
  pub before_reads : SwitchesRead files out first (switch_numbers before) before
  pub before_short : AllShort files out before

-- All files before this one are well. `kept` is the digest that the file of the network keeps of it.
abbrev pub Turn : Files → (out : List ℕ) → BundleFile → (kept : Option (List ℕ)) → Type 0
Turn files out Network kept = kept ≡ None
Turn files out (Program s) kept = (program rows : List ℕ) × (kept ≡ Some program) × UpTo files out s program rows
Turn files out (Rows s) kept =
    (program rows : List ℕ) × (kept ≡ Some rows) × UpTo files out s program rows × (p : tree.Program) × ProgramReads files out s program p
Turn files out Certificates kept = ⊥

-- the bytes have the digest that is kept, if one is
abbrev pub Agrees : (bytes : List ℕ) → (kept : Option (List ℕ)) → Type 0
Agrees bytes None = Unit {0}
Agrees bytes (Some kept) = digest_of bytes ≡ kept

-- all files before this one are well, and it has these bytes, which are those that were kept
abbrev pub Fresh : Files → (out : List ℕ) → BundleFile → (bytes : List ℕ) → Type 0
Fresh files out file bytes = (kept : Option (List ℕ)) × Turn files out file kept × Held files out file bytes × Agrees bytes kept

-- ---- faults

-- why the bytes are not of the form of this file
abbrev pub Unformed : BundleFile → (bytes : List ℕ) → FormFault → Type 0
Unformed Network bytes fault = Refused net_form bytes fault
Unformed (Rows s) bytes fault = Refused rows_form bytes fault
Unformed (Program s) bytes fault = ⊥
Unformed Certificates bytes fault = ⊥

-- why the text is no program
abbrev pub NoProgram : BundleFile → (text : List ℕ) → P4Fault → Type 0
NoProgram (Program s) text Wanting-P4 = ⊥
NoProgram (Program s) text fault = p4.IsFirstFault text fault
NoProgram (Rows s) text fault = ⊥
NoProgram Network text fault = ⊥
NoProgram Certificates text fault = ⊥

-- why the rows do not load into the program
abbrev pub NotLoaded : tree.Program → tree.RowsFile → LoadFault → Type 0
NotLoaded program rows fault = (first : Fault) × (fault_of fault ≡ Some first) × (load_fault program rows ≡ Some first)

-- the same of the files of a switch
abbrev pub FilesNotLoaded : Files → (out : List ℕ) → BundleFile → LoadFault → Type 0
FilesNotLoaded files out (Rows s) fault =
    (program rows : List ℕ) × (p : tree.Program) × (r : tree.RowsFile) × UpTo files out s program rows × ProgramReads files out s program p × RowsRead files out s rows r × NotLoaded p r fault
FilesNotLoaded files out (Program s) fault = ⊥
FilesNotLoaded files out Network fault = ⊥
FilesNotLoaded files out Certificates fault = ⊥

-- The first fault of these files, in the order in which they are read. Out of memory is told of any files.
abbrev pub IsFirstFault : Files → (out : List ℕ) → ReadFault → Type 0
IsFirstFault files out (Missing file) = (kept : Option (List ℕ)) × Turn files out file kept × (get files (whole_name out file) ≡ None)
IsFirstFault files out (Folder file Failed) = (kept : Option (List ℕ)) × Turn files out file kept
IsFirstFault files out (Folder file (TooLong most)) =
    (kept : Option (List ℕ)) × (bytes : List ℕ) × Turn files out file kept × (get files (whole_name out file) ≡ Some bytes) × (most ≡ most_of file) × (most < length bytes)
IsFirstFault files out (Folder file Wanting) = ⊥
IsFirstFault files out (Stale file found kept) = (bytes : List ℕ) × Turn files out file (Some kept) × Held files out file bytes × (found ≡ digest_of bytes) × (found ≢ kept)
IsFirstFault files out (NotJson file) = (bytes : List ℕ) × Fresh files out file bytes × Unformed file bytes form.NotJson
IsFirstFault files out (P4 file fault) = (bytes : List ℕ) × Fresh files out file bytes × NoProgram file bytes fault
IsFirstFault files out (Shape file pointer) = (bytes : List ℕ) × Fresh files out file bytes × Unformed file bytes (form.Shape pointer)
IsFirstFault files out (Load file fault) = FilesNotLoaded files out file fault
IsFirstFault files out NoMemory = Unit {0}

-- ---- folders

-- the same, where the content is known
abbrev pub ContentFault : Option Files → (out : List ℕ) → ReadFault → Type 0
ContentFault None out fault = Unit {0}
ContentFault (Some files) out fault = IsFirstFault files out fault

abbrev pub ContentReads : Option Files → (out : List ℕ) → NetData → Type 0
ContentReads None out n = Unit {0}
ContentReads (Some files) out n = ReadsAs files out n
