use Rattle.std.proofs.Common.{◌∙◌, reverse}
use Rattle.cocoon_syntax.specs.TreeOf.{expr_of}
use Rattle.cocoon_resolve.proofs.Knowing.{known_nodes}
use Rattle.cocoon_resolve.proofs.body_nodes.expr_count.Goals as goal

pub returns : goal.returns
returns c = λ fs k. c.weigh.ensures ∙ known_nodes fs (reverse c.args.known.now) k (expr_of c.args.expr.now)
