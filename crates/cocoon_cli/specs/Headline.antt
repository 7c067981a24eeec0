-- The main promise. Whenever `compile` or `update` ends with status 0, the files that it wrote read as a P4-16
-- network that, for every packet entering at any host port and any number of switch visits,
-- delivers copy for copy exactly what the design's last level delivers under the given definitions;
-- and each such delivery, its port, headers and payload, is one that the design's topmost
-- specification may make. It is the sentence of "What is proved" in README.md, which "The headline"
-- of docs/PROMISES.md takes part by part.
use Rattle.std.specs.Prelude.{◌≡◌, ℕ, List, Option, Some, None, codes}
use Rattle.std.specs.FinMap.{get}
use Rattle.cocoon_num.specs.Tree.{Design, DefsText}
use Rattle.cocoon_num.specs.Reads.{Reads, ReadsDefs}
use Rattle.cocoon_io.specs.Files.{Files}
use Rattle.cocoon_types.specs.Tables.{defs_of}
use Rattle.cocoon_types.specs.Rules.{WellFormed}
use Rattle.cocoon_types.specs.DefsRules.{DefsFit}
use Rattle.p4_ir.specs.NetTree.{NetData}
use Rattle.json_forms.specs.Values.{IsJson}
use Rattle.net_bundle.specs.BundleNames.{digest_of, file_name, net_name}
use Rattle.net_bundle.specs.NetJson.{NetFile, net_data}
use Rattle.net_bundle.specs.Network.{Network, InBundle, file_wiring}
use Rattle.lowering.specs.Delivers.{DeliversExactly, DeliversWithin}
use Rattle.command_line.specs.Command.{Command, check, compile, update, step, forward, gen}
use Rattle.command_line.specs.Words.{command}

-- What the files hold `after` a `compile` of the design and the definitions that stood in the files
-- `before`. Which names may change besides those of the bundle is a parameter.
pub record Compiled (before after : Files) (design_name defs_name out : List ℕ)
    (besides : List ℕ → Type 0) : Type 0 where
  pub design_text : List ℕ
  pub defs_text : List ℕ
  pub design : Design
  pub entries : DefsText
  pub net : NetData
  -- the given design and definitions
  pub design_is : get before design_name ≡ Some design_text
  pub defs_are : get before defs_name ≡ Some defs_text
  pub design_reads : Reads design_text design
  pub well_formed : WellFormed design
  pub defs_read : ReadsDefs defs_text entries
  pub defs_fit : DefsFit design entries
  -- the files that were written, and no others
  pub network : Network after out net
  pub digest : network.file.design ≡ digest_of design_text
  pub others_same : (name : List ℕ)
      → ¬ InBundle out net.switches name → ¬ besides name → get after name ≡ get before name
  -- what they do
  pub exact : DeliversExactly net design (defs_of design entries)
  pub within : DeliversWithin net design (defs_of design entries)

-- OUT.certs.json: the certificates of the design stand beside the network
abbrev pub IsCertificates : (out : List ℕ) → List ℕ → Type 0
IsCertificates out name = name ≡ file_name out (codes "certs.json")

-- What they hold after an `update`: the network of the new definitions, with the ports, switches, hosts and links of the
-- one that stood there before. No other name may change, and so no certificate.
pub record Updated (before after : Files) (design_name defs_name out : List ℕ) : Type 0 where
  pub compiled : Compiled before after design_name defs_name out (λ name. ⊥)
  pub old : NetFile
  pub old_text : List ℕ
  pub old_is : get before (file_name out net_name) ≡ Some old_text
  pub old_json : IsJson old_text (net_data old)
  pub same_wires : file_wiring compiled.network.file ≡ file_wiring old

-- the same of a command; of one that compiles nothing there is nothing to say
abbrev pub CompiledOf : Option Command → Option Files → Option Files → Type 0
CompiledOf None before after = ⊥
CompiledOf (Some (check design conflicts rounds)) before after = Unit {0}
CompiledOf (Some (compile design defs out conflicts rounds)) None after = Unit {0}
CompiledOf (Some (compile design defs out conflicts rounds)) (Some before) None = ⊥
CompiledOf (Some (compile design defs out conflicts rounds)) (Some before) (Some after) =
    Compiled before after design defs out (IsCertificates out)
CompiledOf (Some (update design defs out conflicts)) None after = Unit {0}
CompiledOf (Some (update design defs out conflicts)) (Some before) None = ⊥
CompiledOf (Some (update design defs out conflicts)) (Some before) (Some after) =
    Updated before after design defs out
CompiledOf (Some (step design defs level file)) before after = Unit {0}
CompiledOf (Some (forward out packets hops)) before after = Unit {0}
CompiledOf (Some (gen hosts packets)) before after = Unit {0}

-- The words are a command. If that is a `compile` or an `update`, and the folder's content is known, then the files
-- are those of its design and definitions. Of any other command nothing is said.
abbrev pub Headline : List (List ℕ) → Option Files → Option Files → Type 0
Headline words before after = CompiledOf (command words) before after
