use Rattle.std.proofs.Common.{◌≡◌, ◌+◌, length, drop, get_or, arith, ◌∷◌}
use Rattle.std.proofs.lemmas.List.{drop_more}
use Rattle.cocoon_num.specs.Packets.{cut, packed}
use Rattle.reference_programs.specs.Widths.{ones}
use Rattle.reference_programs.proofs.Packing as packing
use Rattle.reference_programs.proofs.bits.fields_of_bits.Goals as goal

pub number-requires-clause-fit : goal.number-requires-clause-fit
number-requires-clause-fit c = packing.prefix_fit _ _ _ (omega (arith, c.split_at.ensures.back_len)) c.loop-width.invariant.fit c.split_at.ensures.front

pub loop-width-preserved : goal.loop-width-preserved
loop-width-preserved c =
    let ws = c.args.widths.now in
    let i = c.loop-width.width-index in
    let more : drop i ws ≡ get_or ws i 0 ∷ drop (i + 1) ws = drop_more ws i 0 c.loop-width-test.true in
    let before : packing.Taken c.loop-width.fields.items (drop i ws) c.loop-width.rest.now (cut ws (packed (ones (length c.args.bits.now)) c.args.bits.now))
    = record { so_far = c.loop-width.invariant.so_far; long = c.loop-width.invariant.long; fit = c.loop-width.invariant.fit } in
    let after = packing.take_next _ _ _ _ _ c.number.result _ _ c.split_at.result.1.now (rw (more, ← c.from.ensures) at before) c.split_at.ensures.front c.split_at.ensures.back c.number.ensures.number c.in_ok-push.ensures.items in
    record { so_far = after.so_far; long = after.long; fit = after.fit }
