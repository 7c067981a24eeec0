use Rattle.std.proofs.Common.{All, ◌<◌, arith, subst}
use Rattle.std.proofs.lemmas.List.{take_all}
use Rattle.row_search.proofs.PartFacts.{below_more}
use Rattle.row_search.proofs.dividing.part_count.Goals as goal

pub loop-number-preserved : goal.loop-number-preserved
loop-number-preserved c =
    below_more c.args.numbers.now c.loop-number.number-index 0 c.loop-number.count c.raised-count.result c.loop-number-test.true c.loop-number.invariant c.raised-count.ensures.more c.raised-count.ensures.above

pub returns : goal.returns
returns c = subst (All (λ n. n < c.loop-number.count)) (take_all c.loop-number.number-index c.args.numbers.now (omega arith)) c.loop-number.invariant
