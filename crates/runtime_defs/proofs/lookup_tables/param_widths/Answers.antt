use Rattle.cocoon_syntax.specs.TreeOf.{param_of}
use Rattle.cocoon_num.specs.Tree.{Param}
use Rattle.runtime_defs.specs.Made.{IsWidth}
use Rattle.runtime_defs.proofs.Defined.{mapped-twice}
use Rattle.runtime_defs.proofs.lookup_tables.param_widths.Goals as goal

pub width_of-requires : goal.width_of-requires
width_of-requires c = mapped-twice IsWidth (λ (p : Param). p.width) param_of c.args.params.now c.loop-param.param-index c.param-item.result c.requires c.loop-param-test.true c.param-item.is
