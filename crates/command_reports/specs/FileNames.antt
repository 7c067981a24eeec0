-- Cited by the clauses of files.rt, by the lines of ending.rt, and in cocoon_cli by `keeps` of `run`.
-- The files of a command, by what they are to it: their names, and how long they may be. It follows
-- the section "Commands" of README.md and "Bundle files" in docs/FORMATS.md.
use Rattle.std.specs.Prelude.{◌≡◌, ◌++◌, if◌then◌else◌, ℕ, Bool, false, List, Option, Some, None, codes, option_map}
use Rattle.net_bundle.specs.Bundle.{whole_name}
use Rattle.command_reports.specs.declared.files.CommandFile.{CommandFile}
use Rattle.command_reports.specs.declared.files.CommandFile.TheVariants.{Design, Definitions, Bundle, Case, Packets, Budget}
use Rattle.command_reports.specs.declared.files.FileNames.{FileNames as Names}
use Rattle.command_reports.specs.declared.files.Wanted.{Wanted}

-- The names that a command gives its files; none for a kind that it has not. Those but of a bundle are read,
-- unless the command makes its texts itself; then the names stand in its lines alone.
pub record FileNames : Type 0 where
  pub design : Option (List ℕ)
  pub definitions : Option (List ℕ)
  pub case : Option (List ℕ)
  pub packets : Option (List ℕ)
  pub bundle : Option (List ℕ)
  pub reads_bundle : Bool
  pub makes_texts : Bool

-- those of a value of the code
abbrev pub names_in : Names → FileNames
names_in names = record {
  design = option_map (λ name. name.now) names.design;
  definitions = option_map (λ name. name.now) names.definitions;
  case = option_map (λ name. name.now) names.case;
  packets = option_map (λ name. name.now) names.packets;
  bundle = option_map (λ name. name.now) names.bundle;
  reads_bundle = names.reads_bundle;
  makes_texts = names.makes_texts;
}

-- those of a command that has no files
abbrev pub no_names : FileNames
no_names = record {
  design = None;
  definitions = None;
  case = None;
  packets = None;
  bundle = None;
  reads_bundle = false;
  makes_texts = false;
}

-- the name of the file of a spent budget, by that of the design
abbrev pub budget_name : List ℕ → List ℕ
budget_name design = design ++ codes ".budget.json"

-- the name of a file
abbrev pub name_of : FileNames → CommandFile → Option (List ℕ)
name_of names Design = names.design
name_of names Definitions = names.definitions
name_of names Case = names.case
name_of names Packets = names.packets
name_of names (Bundle file) = option_map (λ out. whole_name out file) names.bundle
name_of names Budget = option_map budget_name names.design

-- this holds of the name of a file, which there is
abbrev pub HasName : FileNames → CommandFile → (List ℕ → Type 0) → Type 0
HasName names file Says = (name : List ℕ) × (name_of names file ≡ Some name) × Says name

-- ---- what is read

abbrev pub design_most : ℕ
design_most = 1048576

abbrev pub definitions_most : ℕ
definitions_most = 4194304

abbrev pub case_most : ℕ
case_most = 65536

abbrev pub packets_most : ℕ
packets_most = 16777216

-- the most bytes of a file of this kind; none of a kind that is not read by a name of its own
abbrev pub most_in : CommandFile → Option ℕ
most_in Design = Some design_most
most_in Definitions = Some definitions_most
most_in Case = Some case_most
most_in Packets = Some packets_most
most_in (Bundle file) = None
most_in Budget = None

abbrev pub with_most : Option ℕ → Option (List ℕ) → Option (List ℕ × ℕ)
with_most (Some most) (Some name) = Some (name, most)
with_most _ _ = None

-- a file that is read by a name of its own: its name, and the most bytes that it may have
abbrev pub wanted : FileNames → CommandFile → Option (List ℕ × ℕ)
wanted names file =
    if names.makes_texts then None else with_most (most_in file) (name_of names file)

-- what the code gives of such a file: its name and its limit, and it is that of the kind
abbrev pub IsWanted : Option (List ℕ × ℕ) → Option (List ℕ) → Option Wanted → Type 0
IsWanted file name None = file ≡ None
IsWanted file name (Some w) = (file ≡ Some (w.name.now, w.most)) × (name ≡ Some w.name.now)

-- the bundle that is read
abbrev pub bundle_in : FileNames → Option (List ℕ)
bundle_in names = if names.reads_bundle then names.bundle else None
