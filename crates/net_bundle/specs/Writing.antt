-- What the writing of a bundle does to a folder, and why it may stop. The clauses of `make` and `write_bundle` cite it, and
-- those of command_answers and cocoon_cli. It follows "Bundle files" in docs/FORMATS.md.
use Rattle.std.specs.Prelude.{◌≡◌, ◌⊎◌, ℕ, ◌+◌, ◌≤◌, ◌<◌, List, [], ◌∷◌, length, take, slice_get, Option, Some, None}
use Rattle.std.specs.FinMap.{get}
use Rattle.cocoon_io.specs.Files.{Files}
use Rattle.cocoon_io.specs.Calls.{with_file, Rose}
use Rattle.cocoon_io.specs.declared.folder.FolderFault.TheVariants.{Failed}
use Rattle.p4_ir.specs.FileSizes.{most_file_bytes}
use Rattle.p4_ir.specs.NetTree.{NetData}
use Rattle.net_bundle.specs.declared.file.BundleFile.{BundleFile}
use Rattle.net_bundle.specs.declared.file.BundleFile.TheVariants.{Certificates}
use Rattle.net_bundle.specs.declared.fault.BundleFault.{BundleFault}
use Rattle.net_bundle.specs.declared.fault.BundleFault.TheVariants.{Folder, Limit, NoMemory}
use Rattle.net_bundle.specs.BundleNames.{file_name, digest_of}
use Rattle.net_bundle.specs.Bundle.{MadeFile, whole_name, certificates_name}
use Rattle.net_bundle.specs.Network.{Network, InBundle}

-- ---- what was put in

-- the content, with these files of the bundle OUT put in one after another
abbrev pub with_files : (out : List ℕ) → List MadeFile → Option Files → Option Files
with_files out [] content = content
with_files out (f ∷ fs) content = with_files out fs (with_file content (whole_name out f.file) f.bytes)

-- the first of these files were put in, or all, and no other was touched
abbrev pub SomeWritten : (out : List ℕ) → List MadeFile → (was is : Option Files) → Type 0
SomeWritten out fs was is = (k : ℕ) × (is ≡ with_files out (take k fs) was)

-- The writes stopped at this file: those before it in the order were put in, none after it was, and it may have been.
pub record StopsAt (out : List ℕ) (fs : List MadeFile) (file : BundleFile) (was is : Option Files) : Type 0 where
  pub index : ℕ
  pub at : MadeFile
  pub at_index : slice_get fs index ≡ Some at
  pub of_file : at.file ≡ file
  pub left : (is ≡ with_files out (take index fs) was) ⊎ (is ≡ with_files out (take (index + 1) fs) was)

-- ---- limits

-- the most bytes of the file of certificates
abbrev pub most_certificate_bytes : ℕ
most_certificate_bytes = 67108864

-- a file has at most so many bytes
abbrev pub most_of : BundleFile → ℕ
most_of Certificates = most_certificate_bytes
most_of _ = most_file_bytes

abbrev pub AllFit : List MadeFile → Type 0
AllFit [] = Unit {0}
AllFit (f ∷ fs) = (length f.bytes ≤ most_of f.file) × AllFit fs

-- this is the first file with more bytes
abbrev pub FirstOver : List MadeFile → BundleFile → Type 0
FirstOver [] file = ⊥
FirstOver (f ∷ fs) file = ((f.file ≡ file) × (most_of f.file < length f.bytes)) ⊎ ((length f.bytes ≤ most_of f.file) × FirstOver fs file)

-- ---- answers

-- Why these files were not all made: one is too long, or there was no memory.
abbrev pub NotMade : List MadeFile → BundleFault → Type 0
NotMade fs (Limit file) = FirstOver fs file
NotMade fs (Folder file fault) = ⊥
NotMade fs NoMemory = Unit {0}

-- Why these files were not all written. A limit comes before any write, and a fault of the folder is about a file at which
-- the writes stopped.
abbrev pub NotWritten : (out : List ℕ) → List MadeFile → (was is : Option Files) → BundleFault → Type 0
NotWritten out fs was is (Limit file) = FirstOver fs file × (is ≡ was)
NotWritten out fs was is (Folder file fault) = AllFit fs × (fault ≡ Failed) × StopsAt out fs file was is
NotWritten out fs was is NoMemory = (is ≡ was) ⊎ (AllFit fs × SomeWritten out fs was is)

-- Where the folder failed, its count of failed writes rose; any other fault leaves the count.
abbrev pub WriteFaultRose : Option ℕ → (old new : ℕ) → BundleFault → Type 0
WriteFaultRose last old new (Folder file fault) = Rose last old new
WriteFaultRose last old new _ = new ≡ old

-- A fault of the folder is about the file of its last call that failed.
abbrev pub NamesFailure : (List ℕ → Type 0) → (out : List ℕ) → BundleFault → Type 0
NamesFailure last_failure out (Folder file fault) = last_failure (whole_name out file)
NamesFailure last_failure out _ = Unit {0}

-- ---- what stands in the end

-- The files `is` hold this network of this design, and names outside of the bundle hold what they held in `was`. The name of
-- the certificates is such a name where none are given; else it holds them, as the list of files says.
pub record Holds (was is : Files) (out design : List ℕ) (net : NetData) (certificates : Option (List ℕ)) : Type 0 where
  pub network : Network is out net
  pub digest : network.file.design ≡ digest_of design
  pub others_same : (name : List ℕ) → ¬ InBundle out net.switches name → (name ≡ file_name out certificates_name → certificates ≡ None) → get is name ≡ get was name

-- the same, where the content is known
abbrev pub ContentHolds : (was is : Option Files) → (out design : List ℕ) → NetData → Option (List ℕ) → Type 0
ContentHolds None is out design net certificates = Unit {0}
ContentHolds (Some was) None out design net certificates = ⊥
ContentHolds (Some was) (Some is) out design net certificates = Holds was is out design net certificates
