use Rattle.std.proofs.Common.{◌≡◌, ◌++◌, get_or, arith, ap, ◌∙◌}
use Rattle.cocoon_num.specs.Packets.{cut}
use Rattle.reference_programs.specs.Widths.{ones}
use Rattle.reference_programs.proofs.Packing as packing
use Rattle.reference_programs.proofs.bits.bits_of_bytes.Goals as goal

pub loop-byte-preserved : goal.loop-byte-preserved
loop-byte-preserved c =
    let pushed : c.push_bits.new.bits.items ≡ c.loop-byte.bits.items ++ cut (ones 8) (get_or c.args.bytes.now c.loop-byte.byte-index 0) = c.in_ok-push_bits.ensures ∙ ap (λ n. c.loop-byte.bits.items ++ cut (ones 8) n) c.from.ensures in
    packing.bytes_next _ _ _ _ _ c.loop-byte-test.true (λ k. omega (arith, c.type_inv.bytes k)) pushed c.loop-byte.invariant
