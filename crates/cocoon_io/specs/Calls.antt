-- What a call does to content, output and counts; the clauses of `Folder` and `Sink` cite this.
use Rattle.std.specs.Prelude.{◌≡◌, ℕ, ◌≤◌, ◌<◌, ◌++◌, List, length, Option, None, Some, Result, Ok, Err, Vec, ◌⊎◌}
use Rattle.std.specs.FinMap.{get, insert}
use Rattle.std.specs.declared.alloc.Global.{Global}
use Rattle.cocoon_io.specs.Files.{Files}
use Rattle.cocoon_io.specs.declared.folder.FolderFault.{FolderFault}
use Rattle.cocoon_io.specs.declared.folder.FolderFault.TheVariants.{Failed, TooLong, NoMemory}

-- what a read answers where this is the file under the name
abbrev pub AnswersFile : Option (List ℕ) → ℕ → Result (Option (Vec ℕ Global)) FolderFault → Type 0
AnswersFile file limit (Err Failed) = Unit {0}
AnswersFile file limit (Err NoMemory) = Unit {0}
AnswersFile file limit (Err (TooLong n)) =
    (n ≡ limit) × (bytes : List ℕ) × (file ≡ Some bytes) × (limit < length bytes)
AnswersFile file limit (Ok None) = file ≡ None
AnswersFile file limit (Ok (Some v)) = (file ≡ Some v.items) × (length v.items ≤ limit)

-- the same of a folder whose content may not be known
abbrev pub ReadAnswers : Option Files → List ℕ → ℕ
    → Result (Option (Vec ℕ Global)) FolderFault → Type 0
ReadAnswers None name limit answer = Unit {0}
ReadAnswers (Some files) name limit answer = AnswersFile (get files name) limit answer

-- the content with these bytes under the name
abbrev pub with_file : Option Files → List ℕ → List ℕ → Option Files
with_file None name bytes = None
with_file (Some files) name bytes = Some (insert files name bytes)

-- a count rose, or stands at its last value
abbrev pub Rose : Option ℕ → ℕ → ℕ → Type 0
Rose None old new = old < new
Rose (Some last) old new = (old < new) ⊎ (new ≡ last)

-- the output followed by these bytes
abbrev pub appended : Option (List ℕ) → List ℕ → Option (List ℕ)
appended None bytes = None
appended (Some output) bytes = Some (output ++ bytes)

-- the new output is the old one, followed by a prefix of the bytes
abbrev pub AppendsPrefix : Option (List ℕ) → List ℕ → Option (List ℕ) → Type 0
AppendsPrefix old bytes new =
    (prefix rest : List ℕ) × (bytes ≡ prefix ++ rest) × (new ≡ appended old prefix)
