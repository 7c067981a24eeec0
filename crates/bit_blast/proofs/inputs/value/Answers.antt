use Rattle.std.proofs.Common.{arith, subst, sym, ◌≤◌}
use Rattle.cnf_core.specs.Satisfying.{makes_true}
use Rattle.bit_blast.proofs.BitNumbers.{bit-small}
use Rattle.bit_blast.proofs.InputFacts.{value-below}
use Rattle.bit_blast.proofs.inputs.value.Goals as goal

pub overflow_mul-value : goal.overflow_mul-value
overflow_mul-value c =
    let b = value-below (makes_true c.args.assignment.now) c.args.bits.now c.loop-at.at c.loop-at.value c.loop-at.invariant c.requires c.loop-at-test.true in
    omega (arith, b)

pub overflow_add-value : goal.overflow_add-value
overflow_add-value c =
    let b = value-below (makes_true c.args.assignment.now) c.args.bits.now c.loop-at.at c.loop-at.value c.loop-at.invariant c.requires c.loop-at-test.true in
    let s = subst (λ n. n ≤ 1) (sym c.digit.ensures) (bit-small (makes_true c.args.assignment.now c.index-bits-at.result.number)) in
    omega (arith, b, s)
