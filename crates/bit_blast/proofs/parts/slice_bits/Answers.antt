use Rattle.std.proofs.Common.{◌+◌, ◌-◌, ap, ◌∙◌, arith}
use Rattle.bit_blast.proofs.BitSteps.{numbers-slice}
use Rattle.bit_blast.specs.Emitted.{numbers}
use Rattle.bit_blast.proofs.parts.slice_bits.Goals as goal

pub returns : goal.returns
returns c =
    ap numbers c.in_ok-from_slice.ensures.items
    ∙ numbers-slice c.args.bits.now (c.args.high + 1 - c.args.low) (c.args.high - c.args.low + 1) c.args.low (let o = c.requires.ordered in omega arith)
