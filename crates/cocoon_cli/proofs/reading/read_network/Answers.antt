use Rattle.cocoon_cli.proofs.Readings.{names, rose}
use Rattle.cocoon_cli.proofs.reading.read_network.Goals as goal

pub returns-in-Err-clause-failed : goal.returns-in-Err-clause-failed
returns-in-Err-clause-failed g c = rose _ _ _ c.in-Err.fault _ c.unread.ensures c.in-Err.ensures.failed

pub returns-in-Err-clause-named : goal.returns-in-Err-clause-named
returns-in-Err-clause-named g c =
    names (g.F.Folder.last_failure c.read_bundle.new.folder) c.args.out.now c.in-Err.fault _ c.unread.ensures c.in-Err.ensures.named
