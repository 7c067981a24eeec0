use Rattle.cocoon_syntax.specs.TreeOf.{header_of}
use Rattle.lower_net.proofs.Few.{declared-in}
use Rattle.lower_net.proofs.headers.headers.Goals as goal

pub header-requires : goal.header-requires
header-requires c = declared-in header_of c.args.headers.now c.loop-each.each-index c.each-item.result c.requires c.loop-each-test.true c.each-item.is
