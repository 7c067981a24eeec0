use Rattle.std.proofs.Common.{◌≡◌, ◌≤◌, ◌++◌, ◌-◌, length}
use Rattle.bit_blast.specs.Gates.{constant_bits}
use Rattle.bit_blast.specs.Emitted.{numbers}
use Rattle.bit_blast.proofs.parts.constant_bits.Given as goal

abbrev pub invariant-loop-bits : goal.invariant-loop-bits
invariant-loop-bits l = record {
  within : length l.bits.items ≤ l.width;
  made : constant_bits l.width l.fn.value ≡ numbers l.bits.items ++ constant_bits (l.width - length l.bits.items) l.rest;
}

abbrev pub decreases-loop-bits : goal.decreases-loop-bits
decreases-loop-bits l = l.width - length l.bits.items
