use Rattle.std.proofs.Common.{◌≡◌, ◌+◌, ◌-◌, ◌*◌, ◌/◌, ◌%◌, ◌^◌, ◌<◌, ◌≤◌, [], ◌∷◌, ◌++◌, length, set, take, refl, rules, ◌∙◌, arith}
use Rattle.std.proofs.lemmas.List.{length-set, take_more_set}
use Rattle.packed_fields.proofs.Steps.{byte_fits, byte_written, lower_below, mask_is, upper_below}
use Rattle.packed_fields.proofs.joining.flush.Goals as goal

pub overflow_cast-bytes-in-loop-left : goal.overflow_cast-bytes-in-loop-left
overflow_cast-bytes-in-loop-left c =
    let w = c.loop-left.left in
    let l : 8 ≤ w.count = search rules in
    let b : 8 + (w.count - 8) ≡ w.count = omega (arith, l) in
    let small : w.pending / 2 ^ (w.count - 8) < 2 ^ 8 = upper_below w.pending 8 (w.count - 8) w.count b c.loop-left.invariant.writing.below in
    search rules

pub loop-left-preserved : goal.loop-left-preserved
loop-left-preserved c =
    let w = c.loop-left.left in
    let bs = c.loop-left.bytes in
    let q = w.pending / 2 ^ (w.count - 8) in
    let l : 8 ≤ w.count = search rules in
    let few : w.count < 72 = c.loop-left.invariant.few in
    let room : 8 * w.at + w.count ≤ 8 * length bs = c.loop-left.invariant.room in
    let m : w.at < length bs = omega (arith, l, room) in
    let pushed : take (w.at + 1) (set bs w.at q) ≡ take w.at bs ++ q ∷ [] = take_more_set bs w.at q m in
    let many : length (set bs w.at q) ≡ length bs = length-set bs w.at q in
    let mask : 1 * 2 ^ (w.count - 8) % 2 ^ 128 ≡ 2 ^ (w.count - 8) = mask_is (w.count - 8) (omega (arith, few)) in
    record {
      writing = record {
        within = omega (arith, m, many);
        bytes_fit = byte_fits (take w.at bs) (take (w.at + 1) (set bs w.at q)) q pushed c.loop-left.invariant.writing.bytes_fit
            (upper_below w.pending 8 (w.count - 8) w.count (omega (arith, l)) c.loop-left.invariant.writing.below);
        below = lower_below w.pending (w.count - 8) (1 * 2 ^ (w.count - 8) % 2 ^ 128) mask;
      };
      few = omega (arith, few);
      room = omega (arith, room, l, many);
      bits = (let e : 8 * (w.at + 1) + (w.count - 8) ≡ 8 * w.at + w.count = omega (arith, l) in e) ∙ c.loop-left.invariant.bits;
      number = byte_written (take w.at bs) (take (w.at + 1) (set bs w.at q)) w.pending w.count q (1 * 2 ^ (w.count - 8) % 2 ^ 128) l pushed refl mask
          ∙ c.loop-left.invariant.number;
    }
