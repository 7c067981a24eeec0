-- Cited by the clauses of the commands, and in cocoon_cli by those of writing.rt and through Leaves.antt
-- by `keeps` of `run`. What is written in a folder, and what stands there after all or a part of it was.
use Rattle.std.specs.Prelude.{◌≡◌, ◌⊎◌, ℕ, List, Option}
use Rattle.cocoon_io.specs.Files.{Files}
use Rattle.cocoon_io.specs.Calls.{with_file}
use Rattle.net_bundle.specs.Bundle.{MadeFile}
use Rattle.net_bundle.specs.Writing.{SomeWritten, StopsAt, with_files}
use Rattle.command_reports.specs.declared.files.CommandFile.{CommandFile}
use Rattle.command_reports.specs.declared.files.CommandFile.TheVariants.{Bundle}

-- nothing; the files of a bundle, in their order; or one file with a name of its own
pub data Writing : Type 0 where
  nothing : Writing
  bundle : (out : List ℕ) (files : List MadeFile) → Writing
  own : (file : CommandFile) (name bytes : List ℕ) → Writing

-- the content with all of it put in
abbrev pub with_writing : Writing → Option Files → Option Files
with_writing nothing content = content
with_writing (bundle out files) content = with_files out files content
with_writing (own file name bytes) content = with_file content name bytes

-- a part of it was put in, or all, and no other file was touched
abbrev pub SomeOf : Writing → (before after : Option Files) → Type 0
SomeOf nothing before after = after ≡ before
SomeOf (bundle out files) before after = SomeWritten out files before after
SomeOf (own file name bytes) before after =
    (after ≡ before) ⊎ (after ≡ with_file before name bytes)

-- The writes stopped at this file: those before it were put in, none after it was, and it may have
-- been.
abbrev pub StopsIn : Writing → CommandFile → (before after : Option Files) → Type 0
StopsIn nothing at before after = ⊥
StopsIn (bundle out files) (Bundle file) before after = StopsAt out files file before after
StopsIn (bundle out files) at before after = ⊥
StopsIn (own file name bytes) at before after =
    (at ≡ file) × ((after ≡ before) ⊎ (after ≡ with_file before name bytes))
