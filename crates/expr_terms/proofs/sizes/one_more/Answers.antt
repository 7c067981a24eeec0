use Rattle.expr_terms.proofs.Counts.{one_counts}
use Rattle.expr_terms.proofs.sizes.one_more.Goals as goal

pub returns : goal.returns
returns c = λ n h. c.plus.ensures 1 n one_counts h
