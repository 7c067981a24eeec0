-- A `forward` with status 0 over the bundle that a `compile` with status 0 wrote. The law `forward_tells_the_design` cites it.
use Rattle.std.specs.Prelude.{◌≡◌, ℕ, List, Some}
use Rattle.std.specs.FinMap.{get}
use Rattle.cocoon_io.specs.Files.{Files}
use Rattle.cocoon_types.specs.Tables.{Defs, defs_of}
use Rattle.net_bundle.specs.Network.{InBundle}
use Rattle.command_line.specs.Command.{forward}
use Rattle.command_line.specs.Words.{command}
use Rattle.cocoon_cli.specs.Headline.{Compiled, IsCertificates}
use Rattle.cocoon_cli.specs.Run.{Call, CauseOf}
use Rattle.command_reports.specs.declared.status.Status.TheVariants.{Done}

pub record ForwardsCompiled : Type 0 where
  -- what the clause `headline` of `run` says after the `compile`
  pub before : Files
  pub after : Files
  pub design_name : List ℕ
  pub defs_name : List ℕ
  pub out : List ℕ
  pub compiled : Compiled before after design_name defs_name out (IsCertificates out)
  -- the call of the `forward`, of which the clause `keeps` of `run` says `cause`
  pub call : Call
  pub packets_name : List ℕ
  pub hops : ℕ
  pub words : command call.words ≡ Some (forward out packets_name hops)
  pub cause : CauseOf (command call.words) call
  pub status : call.status ≡ Done
  -- its folder has the files of the bundle as they were written; others may have changed
  pub files : Files
  pub content : call.content_before ≡ Some files
  pub bundle_same : (name : List ℕ) → InBundle out compiled.net.switches name → get files name ≡ get after name

-- the tables of the given definitions
abbrev pub tables : ForwardsCompiled → Defs
tables x = defs_of x.compiled.design x.compiled.entries
