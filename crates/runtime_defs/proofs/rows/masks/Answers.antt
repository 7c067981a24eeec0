use Rattle.runtime_defs.proofs.LiteralWidths.{declared-at}
use Rattle.runtime_defs.proofs.rows.masks.Goals as goal

pub ones-requires-clause-some : goal.ones-requires-clause-some
ones-requires-clause-some c = (declared-at c.args.widths.now c.loop-width.width-index c.requires c.loop-width-test.true).0

pub ones-requires-clause-few : goal.ones-requires-clause-few
ones-requires-clause-few c = (declared-at c.args.widths.now c.loop-width.width-index c.requires c.loop-width-test.true).1
