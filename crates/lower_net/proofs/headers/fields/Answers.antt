use Rattle.cocoon_syntax.specs.TreeOf.{param_of}
use Rattle.lower_rows.proofs.Narrow.{declared-at}
use Rattle.lower_net.proofs.headers.fields.Goals as goal

pub field-requires : goal.field-requires
field-requires c = declared-at param_of c.args.params.now c.loop-param.param-index c.param-item.result c.requires c.loop-param-test.true c.param-item.is
