use Rattle.std.proofs.Common.{ap, ◌∙◌, ◌+◌, refl}
use Rattle.bit_blast.proofs.CountFacts.{next-total}
use Rattle.bit_blast.proofs.counts.clause_count.Goals as goal

pub loop-term-preserved : goal.loop-term-preserved
loop-term-preserved c =
    next-total c.args.terms.now c.args.order.now c.loop-term.term-index _ 0 c.loop-term.count c.in_ok-count.count c.loop-term-test.true refl c.loop-term.invariant
    (c.in_ok-count.ensures ∙ ap (λ m. c.loop-term.count + m) c.of_term.ensures)
