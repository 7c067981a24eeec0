use Rattle.std.proofs.Common.{arith}
use Rattle.solver_tests.proofs.Unapplied.{next-unapplied}
use Rattle.solver_tests.proofs.building.has_no_application.Goals as goal

pub loop-at-init : goal.loop-at-init
loop-at-init c = record { within = omega arith; free = λ k l. absurd (omega (arith, l)) }

pub loop-at-preserved : goal.loop-at-preserved
loop-at-preserved c =
    let less = c.loop-at-test.true in
    let last = c.from.ensures in
    record {
      within = omega (arith, less, last);
      free = next-unapplied c.args.terms.now c.loop-at.at c.node.result.now c.node.ensures.arena c.node.ensures.node (c.is_application.ensures c.if-is_application.false)
          c.loop-at.invariant.free;
    }
