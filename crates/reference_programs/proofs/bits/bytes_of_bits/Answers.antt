use Rattle.std.proofs.Common.{suc, ◌≡◌, ◌+◌, length, ◌-◌, arith, sym, ◌∙◌}
use Rattle.cocoon_num.specs.Packets.{cut, eights, packed}
use Rattle.reference_programs.specs.Widths.{ones}
use Rattle.reference_programs.proofs.Packing as packing
use Rattle.reference_programs.proofs.bits.bytes_of_bits.Goals as goal

pub loop-done-preserved : goal.loop-done-preserved
loop-done-preserved c =
    let k = c.args.count - (c.loop-done._done + 1) in
    let more : c.args.count - c.loop-done._done ≡ suc k = omega (arith, c.loop-done-test.true) in
    let all = cut (eights c.args.count) (packed (ones (length c.args.bits.now)) c.args.bits.now) in
    let before : packing.Taken c.loop-done.bytes.items (eights (c.args.count - c.loop-done._done)) c.loop-done.rest.now all
    = record { so_far = c.loop-done.invariant.so_far; long = packing.total-eights _ ∙ c.loop-done.invariant.long; fit = c.loop-done.invariant.fit } in
    let after = packing.take_next _ _ _ (eights k) 8 c.number.result _ _ c.split_at.result.1.now (rw more at before) c.split_at.ensures.front c.split_at.ensures.back c.number.ensures.number c.in_ok-push.ensures.items in
    record { so_far = after.so_far; long = sym (packing.total-eights k) ∙ after.long; fit = after.fit }
