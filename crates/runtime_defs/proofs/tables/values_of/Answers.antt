use Rattle.cocoon_syntax.specs.TreeOf.{pattern_of}
use Rattle.runtime_defs.specs.Steps.{IsNarrow}
use Rattle.runtime_defs.proofs.Defined.{mapped-at}
use Rattle.runtime_defs.proofs.tables.values_of.Goals as goal

pub key-requires : goal.key-requires
key-requires c = mapped-at IsNarrow pattern_of c.args.patterns.now c.loop-pattern.pattern-index c.pattern-item.result c.requires c.loop-pattern-test.true c.pattern-item.is
