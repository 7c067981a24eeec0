use Rattle.std.proofs.Common.{sym}
use Rattle.cocoon_text.proofs.NameRuns.{is_name}
use Rattle.cocoon_text.proofs.spellings.run_kind.Goals as goal

pub returns-in-None : goal.returns-in-None
returns-in-None c = is_name c.args.run.now c.requires (sym c.if-same_bytes.ensures) c.in-None.ensures
