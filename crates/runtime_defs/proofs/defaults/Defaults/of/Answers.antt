use Rattle.runtime_defs.proofs.LiteralWidths.{one-fits}
use Rattle.runtime_defs.proofs.defaults.Defaults.of.Goals as goal

pub new-requires-in_default-clause-fits : goal.new-requires-in_default-clause-fits
new-requires-in_default-clause-fits c = one-fits c.args.width c.requires.some
