-- Cited by the clauses of design_texts.rt. The two texts of a command: a design with definitions that
-- fit it, or why there is none.
use Rattle.std.specs.Prelude.{◌≡◌, ◌⊎◌, ◌<◌, ℕ, List, Some}
use Rattle.cocoon_num.specs.Lists.{first_of}
use Rattle.cocoon_num.specs.Tree.{Design, DefsText}
use Rattle.cocoon_num.specs.Reads.{Reads, ReadsDefs}
use Rattle.cocoon_num.specs.FirstFaults.{BeginsDesign, BeginsDefs}
use Rattle.cocoon_num.specs.declared.limit_name.LimitName.{LimitName}
use Rattle.cocoon_num.specs.declared.limit_name.LimitName.TheVariants.{Rows}
use Rattle.cocoon_resolve.specs.Resolved.{Resolves}
use Rattle.cocoon_text.specs.Positions.{token_position}
use Rattle.cocoon_text.specs.TextFaults.{FirstFault}
use Rattle.cocoon_types.specs.DefsRules as defs_rules
use Rattle.cocoon_types.specs.DefsRules.{defs_faults, DefsFit}
use Rattle.cocoon_types.specs.FirstFault as rules
use Rattle.cocoon_types.specs.RuleNames.{fault_at}
use Rattle.cocoon_types.specs.Rules.{WellFormed}
use Rattle.cocoon_resolve.specs.First.{IsFirstOver}
use Rattle.runtime_defs.specs.Bound.{most_rows, row_count}
use Rattle.runtime_defs.specs.Fitting.{FitsDesign}
use Rattle.runtime_defs.specs.Places.{Places}
use Rattle.lower_p4.specs.Lowering.{AreOfText}
use Rattle.command_reports.specs.declared.refusal.InputFault.TheVariants.{NoTree, Rule}
use Rattle.command_reports.specs.declared.refusal.EntryRule.TheVariants.{UnknownFunction, WrongRow, TwoDefaults, GuardRows, ForkRows}
use Rattle.command_reports.specs.declared.refusal.DefinitionsFault.{DefinitionsFault}
use Rattle.command_reports.specs.declared.refusal.DefinitionsFault.TheVariants as definitions
use Rattle.command_reports.specs.declared.refusal.Refusal.{Refusal}
use Rattle.command_reports.specs.declared.refusal.Refusal.TheVariants.{Language, Definitions, OverLimit, NoMemory}

-- ---- what is made of the texts

-- the text reads as a design that keeps the rules and the limits
pub record ReadsChecked (design : List ℕ) (tree : Design) : Type 0 where
  pub reads : Reads design tree
  pub resolves : Resolves tree

-- the definitions, which have a tree, fit the design and are within the limit on rows
pub record Binds (design defs : List ℕ) (tree : Design) (entries : DefsText) : Type 0 where
  pub checked : ReadsChecked design tree
  pub read : ReadsDefs defs entries
  pub fits : DefsFit tree entries

-- and these are their tables
pub record BindsTables (design defs : List ℕ) (tree : Design) (tables : Places) : Type 0 where
  pub entries : DefsText
  pub binds : Binds design defs tree entries
  pub are : AreOfText tree entries tables
  pub fit : FitsDesign tree tables

-- ---- faults of definitions

-- what is told of a fault: of an entry the position of its name, of a missing default the function
abbrev pub told : (defs : List ℕ) → defs_rules.DefsFault → DefinitionsFault
told defs (defs_rules.unknown_function at) =
    definitions.Entry UnknownFunction (token_position defs at)
told defs (defs_rules.wrong_row at) = definitions.Entry WrongRow (token_position defs at)
told defs (defs_rules.two_defaults at) = definitions.Entry TwoDefaults (token_position defs at)
told defs (defs_rules.no_default f) = definitions.NoDefault f
told defs (defs_rules.guard_rows at) = definitions.Entry GuardRows (token_position defs at)
told defs (defs_rules.fork_rows at) = definitions.Entry ForkRows (token_position defs at)

-- the definitions have a tree, and this is told of their first fault
pub record Unfit (design defs : List ℕ) (fault : DefinitionsFault) : Type 0 where
  pub tree : Design
  pub entries : DefsText
  pub checked : ReadsChecked design tree
  pub read : ReadsDefs defs entries
  pub first : defs_rules.DefsFault
  pub is_first : first_of (defs_faults tree entries) ≡ Some first
  pub is_told : fault ≡ told defs first

-- they fit, and have so many rows, over the limit
pub record ManyRows (design defs : List ℕ) (limit : LimitName) (count : ℕ) : Type 0 where
  pub tree : Design
  pub entries : DefsText
  pub binds : Binds design defs tree entries
  pub name : limit ≡ Rows
  pub counted : count ≡ row_count entries
  pub over : most_rows < count

-- ---- why there is none

-- why a design is not read
abbrev pub NotChecked : (design : List ℕ) → Refusal → Type 0
NotChecked design (Language (NoTree f)) = FirstFault BeginsDesign design f
NotChecked design (Language (Rule rule position)) =
    (tree : Design) × (token : ℕ) × Reads design tree
    × rules.FirstFault tree (fault_at rule token) × (position ≡ token_position design token)
NotChecked design (OverLimit limit count) =
    (tree : Design) × Reads design tree × WellFormed tree × IsFirstOver tree (Some (limit, count))
NotChecked design NoMemory = Unit {0}
NotChecked design _ = ⊥

-- why definitions do not read
abbrev pub NotRead : (defs : List ℕ) → Refusal → Type 0
NotRead defs (Definitions (definitions.NoTree f)) = FirstFault BeginsDefs defs f
NotRead defs NoMemory = Unit {0}
NotRead defs _ = ⊥

-- why definitions are not bound to a design that reads
abbrev pub NotBound : (design defs : List ℕ) → Refusal → Type 0
NotBound design defs (Definitions fault) = Unfit design defs fault
NotBound design defs (OverLimit limit count) = ManyRows design defs limit count
NotBound design defs NoMemory = Unit {0}
NotBound design defs _ = ⊥

-- definitions are judged where the design reads
pub record NotReadAfter (design defs : List ℕ) (refusal : Refusal) : Type 0 where
  pub tree : Design
  pub checked : ReadsChecked design tree
  pub unread : NotRead defs refusal

-- why there is no design with definitions that fit it; the design is judged first
abbrev pub NotMatched : (design defs : List ℕ) → Refusal → Type 0
NotMatched design defs refusal =
    NotChecked design refusal ⊎ (NotReadAfter design defs refusal ⊎ NotBound design defs refusal)
