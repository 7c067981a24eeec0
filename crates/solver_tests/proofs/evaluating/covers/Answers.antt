use Rattle.std.proofs.Common.{arith, rules}
use Rattle.std.specs.Bool.{IsTrue}
use Rattle.solver_tests.proofs.Covered.{next-covered}
use Rattle.solver_tests.proofs.evaluating.covers.Goals as goal

pub loop-at-init : goal.loop-at-init
loop-at-init c = record { within = omega arith; covered = λ k l. absurd (omega (arith, l)) }

pub loop-at-preserved : goal.loop-at-preserved
loop-at-preserved c =
    let less = c.loop-at-test.true in
    let last = c.from.ensures in
    let has : IsTrue c.covers_node.result = search rules in
    record {
      within = omega (arith, less, last);
      covered = next-covered c.args.env.now c.args.terms.now c.loop-at.at c.node.result.now c.node.ensures.arena c.node.ensures.node
          (c.covers_node.ensures has) c.loop-at.invariant.covered;
    }
