-- Cited by the clauses of compile.rt. The network that is made of the two texts of a `compile`, with the
-- certificates of its design, or why there is none.
use Rattle.std.specs.Prelude.{◌≡◌, ℕ, List, Some}
use Rattle.cocoon_num.specs.Tree.{Design}
use Rattle.cocoon_types.specs.Design.{last_level}
use Rattle.cocoon_types.specs.Tables.{defs_of}
use Rattle.cert_text.specs.Certifying.{Certifies}
use Rattle.lowering.specs.Delivers.{DeliversWithin}
use Rattle.obligation_gen.specs.Counted.{AreFew, all_counts}
use Rattle.shared_net.specs.Shared.{shared_of}
use Rattle.p4_ir.specs.NetTree.{NetData}
use Rattle.refinement.specs.Assumptions.{Meets}
use Rattle.refinement.specs.Owed.{Refines}
use Rattle.runtime_defs.specs.Places.{Places}
use Rattle.lower_p4.specs.LowerLimits.{IsOver, IsWithin}
use Rattle.lower_p4.specs.Lowering.{IsLowering}
use Rattle.lower_p4.specs.Lowers.{Lowers}
use Rattle.net_bundle.specs.Bundle.{all_switch_files}
use Rattle.net_bundle.specs.Writing.{FirstOver, most_of}
use Rattle.net_bundle.specs.declared.file.BundleFile.{BundleFile}
use Rattle.command_answers.specs.declared.answer.Writing.{Writing}
use Rattle.command_answers.specs.declared.answer.Writing.TheVariants as written
use Rattle.command_reports.specs.declared.files.CommandFile.{CommandFile}
use Rattle.command_reports.specs.declared.files.CommandFile.TheVariants.{Bundle}
use Rattle.command_reports.specs.declared.refusal.Refusal.{Refusal}
use Rattle.command_reports.specs.declared.refusal.Refusal.TheVariants.{OverLimit, TooLong, NoMemory}
use Rattle.command_reports.specs.DesignTexts.{BindsTables}

-- no tree of the design has too many leaves, each of its blocks keeps what it owes, the definitions meet
-- its assumptions, this is the network of both, and what it delivers the topmost specification may make
pub record LowersTexts (design defs : List ℕ) (net : NetData) : Type 0 where
  pub tree : Design
  pub tables : Places
  pub binds : BindsTables design defs tree tables
  pub few : AreFew (all_counts tree)
  pub refines : Refines tree
  pub met : Meets (last_level tree) tree (defs_of tree binds.entries)
  pub within : IsWithin tree binds.entries
  pub lowers : Lowers tree binds.entries net
  pub lowering : IsLowering tree binds.entries net
  pub stays : DeliversWithin net tree (defs_of tree binds.entries)

-- and of this design
abbrev pub LowersDesign : (design defs : List ℕ) → Design → NetData → Type 0
LowersDesign design defs tree net = (made : LowersTexts design defs net) × (made.tree ≡ tree)

-- the network of both texts, and certificates of what the design owes
pub record CompilesTexts (design defs : List ℕ) (net : NetData) (certificates : List ℕ) : Type 0 where
  pub lowers : LowersTexts design defs net
  pub certify : Certifies lowers.tree certificates

-- this is written: the bundle of them under the given name
abbrev pub Compiles : (out design defs : List ℕ) → Writing → Type 0
Compiles out design defs (written.Bundle name net (Some certificates)) =
    (name.now ≡ out) × CompilesTexts design defs (shared_of net) certificates
Compiles out design defs w = ⊥

-- of the files of the switches of their network, this is the first that is over its limit
pub record LongFile (design defs : List ℕ) (tree : Design) (tables : Places) (file : CommandFile)
    (most : ℕ) : Type 0 where
  pub binds : BindsTables design defs tree tables
  pub first : BundleFile
  pub names : file ≡ Bundle first
  pub limit : most ≡ most_of first
  pub net : NetData
  pub lowers : Lowers tree binds.entries net
  pub within : IsWithin tree binds.entries
  pub long : FirstOver (all_switch_files net.switches) first

-- why no network is made of a design and definitions that fit it
abbrev pub NotLowered : (design defs : List ℕ) → Design → Places → Refusal → Type 0
NotLowered design defs tree tables (TooLong file most) = LongFile design defs tree tables file most
NotLowered design defs tree tables (OverLimit limit count) =
    (binds : BindsTables design defs tree tables) × IsOver tree binds.entries limit count
NotLowered design defs tree tables NoMemory = Unit {0}
NotLowered design defs tree tables _ = ⊥
