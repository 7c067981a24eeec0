use Rattle.std.proofs.Common.{◌+◌, ◌*◌, ◌<◌, ◌^◌, arith}
use Rattle.reference_programs.proofs.Packing as packing
use Rattle.reference_programs.proofs.bits.number.Goals as goal

pub overflow_add-number : goal.overflow_add-number
overflow_add-number c =
    let bit : c.from.result < 2 = rw c.from.ensures (packing.bit_split c.args.bits.now c.loop-bit.bit-index c.loop-bit-test.true c.loop-bit.invariant.fit).0 in
    let fits : c.loop-bit.number * 2 + c.from.result < 2 ^ 64 = packing.double_fits c.loop-bit.number c.from.result c.loop-bit.bit-index c.loop-bit.invariant.below bit (omega (arith, c.loop-bit-test.true, c.requires.few)) in
    omega (arith, fits)

pub loop-bit-preserved : goal.loop-bit-preserved
loop-bit-preserved c =
    let split = packing.bit_split c.args.bits.now c.loop-bit.bit-index c.loop-bit-test.true c.loop-bit.invariant.fit in
    record {
      so_far = packing.number_next _ _ _ _ _ c.loop-bit-test.true c.from.ensures c.loop-bit.invariant.so_far;
      below = packing.double_below c.loop-bit.number c.from.result c.loop-bit.bit-index c.loop-bit.invariant.below (rw c.from.ensures split.0);
      fit = split.1;
    }
