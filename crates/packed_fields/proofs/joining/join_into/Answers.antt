use Rattle.std.proofs.Common.{◌≡◌, ◌+◌, ◌*◌, ◌/◌, ◌%◌, ◌^◌, ◌<◌, ◌≤◌, length, take, get_or, rules, sym, subst, ◌∙◌, arith}
use Rattle.cocoon_num.specs.Packets.{total}
use Rattle.packed_fields.specs.Bits.{bits_made}
use Rattle.packed_fields.proofs.Packing.{fit_length}
use Rattle.packed_fields.proofs.Steps.{all_written, bits_more, field_fits, number_more, total_within}
use Rattle.packed_fields.proofs.joining.join_into.Goals as goal

pub bounds-fields-index : goal.bounds-fields-index
bounds-fields-index c =
    let many : length c.args.widths.now ≡ length c.args.fields.now = fit_length c.args.widths.now c.args.fields.now c.requires.fit in
    omega (arith, many, c.loop-index-test.true)

pub offset_bounds-fields-index : goal.offset_bounds-fields-index
offset_bounds-fields-index c =
    let many : length c.args.widths.now ≡ length c.args.fields.now = fit_length c.args.widths.now c.args.fields.now c.requires.fit in
    let l : c.loop-index.index < length c.args.fields.now = omega (arith, many, c.loop-index-test.true) in
    search rules

pub write-left-requires-clause-fits : goal.write-left-requires-clause-fits
write-left-requires-clause-fits c =
    let is : c.from.result ≡ get_or c.args.widths.now c.loop-index.index 0 = search rules in
    subst (λ w. get_or c.args.fields.now c.loop-index.index 0 < 2 ^ w) (sym is)
    (field_fits c.args.widths.now c.args.fields.now c.loop-index.index c.requires.fit c.loop-index-test.true)

pub write-left-requires-clause-room : goal.write-left-requires-clause-room
write-left-requires-clause-room c =
    let ws = c.args.widths.now in
    let i = c.loop-index.index in
    let is : c.from.result ≡ get_or ws i 0 = search rules in
    let step : total (take (i + 1) ws) ≡ total (take i ws) + get_or ws i 0 = bits_more ws i c.loop-index-test.true in
    let top : total (take (i + 1) ws) ≤ total ws = total_within ws (i + 1) in
    let whole : total ws % 8 ≡ 0 = c.requires.whole in
    let many : length c.args.bytes.now ≡ total ws / 8 = c.requires.many in
    let same : length c.loop-index.bytes ≡ length c.args.bytes.now = c.loop-index.invariant.many in
    let bits : bits_made c.loop-index.left ≡ total (take i ws) = c.loop-index.invariant.bits in
    omega (arith, is, step, top, whole, many, same, bits)

pub loop-index-preserved : goal.loop-index-preserved
loop-index-preserved c =
    let ws = c.args.widths.now in
    let fs = c.args.fields.now in
    let i = c.loop-index.index in
    let is : c.from.result ≡ get_or ws i 0 = search rules in
    record {
      writing = c.write-left.ensures.writing;
      short = c.write-left.ensures.short;
      many = search rules;
      bits = c.write-left.ensures.bits ∙ (λ k. c.loop-index.invariant.bits k + is k) ∙ sym (bits_more ws i c.loop-index-test.true);
      number = c.write-left.ensures.number ∙ (λ k. c.loop-index.invariant.number k * 2 ^ is k + get_or fs i 0) ∙ sym (number_more ws fs i c.requires.fit c.loop-index-test.true);
    }

pub returns : goal.returns
returns c =
    let i = c.loop-index.index in
    let w = c.loop-index.left in
    let kept = c.loop-index.invariant in
    let l : length c.args.widths.now ≤ i = search rules in
    record {
      bytes = all_written c.args.widths.now c.args.fields.now c.loop-index.bytes w.at i w.pending w.count l c.requires.fit c.requires.whole (kept.many ∙ c.requires.many)
          kept.writing.within kept.writing.bytes_fit kept.short kept.writing.below kept.bits kept.number;
    }
