use Rattle.std.proofs.Common.{◌≡◌, ◌+◌, ◌∷◌, ◌++◌, ◌<◌, ◌≤◌, [], length, take, drop, set, get_or, rules, sym, ◌∙◌, arith}
use Rattle.std.proofs.lemmas.List.{length-set, take_all, take_more_set}
use Rattle.cocoon_num.specs.Packets.{total}
use Rattle.packed_fields.specs.Bits.{bits_left, bytes_number, number_left}
use Rattle.packed_fields.proofs.Packing.{fit_length}
use Rattle.packed_fields.proofs.Steps.{all_read, field_cut, fields_cut, first_width, width_fits}
use Rattle.packed_fields.proofs.cutting.cut_into.Goals as goal

pub loop-index-preserved : goal.loop-index-preserved
loop-index-preserved c =
    let ws = c.args.widths.now in
    let i = c.loop-index.index in
    let fs = c.loop-index.fields in
    let w = c.from.result in
    let n = c.read.result in
    let old = c.loop-index.reader in
    let new = c.read.new.self in
    let l : i < length ws = c.loop-index-test.true in
    let m : i < length fs = omega (arith, c.loop-index.invariant.many, l) in
    let is : w ≡ get_or ws i 0 = search rules in
    let step : total (drop i ws) ≡ get_or ws i 0 + total (drop (i + 1) ws) = first_width ws i l in
    let bits : bits_left old ≡ w + bits_left new = c.read.ensures.bits in
    let was : bits_left old ≡ total (drop i ws) = c.loop-index.invariant.bits in
    let more : take (i + 1) (set fs i n) ≡ take i fs ++ n ∷ [] = take_more_set fs i n m in
    record {
      reading = c.read.ensures.reading;
      short = c.read.ensures.short;
      many = length-set fs i n ∙ c.loop-index.invariant.many;
      bits = omega (arith, is, step, bits, was);
      number = field_cut ws (take i fs) (take (i + 1) (set fs i n)) i w n (bits_left old) (bits_left new) (number_left old) (number_left new) (bytes_number c.args.bytes.now) l is
          (fit_length (take i ws) (take i fs) c.loop-index.invariant.fits) more bits c.read.ensures.number c.loop-index.invariant.number;
      fits = width_fits ws (take i fs) (take (i + 1) (set fs i n)) i w n l is more c.loop-index.invariant.fits c.read.ensures.fits;
    }

pub returns-clause-fields : goal.returns-clause-fields
returns-clause-fields c =
    let r = c.loop-index.reader in
    let ws = c.args.widths.now in
    let fs = c.loop-index.fields in
    let i = c.loop-index.index in
    let l : length ws ≤ i = search rules in
    let m : length fs ≤ i = omega (arith, c.loop-index.invariant.many, l) in
    sym (take_all i fs m)
    ∙ fields_cut ws (take i fs) c.args.bytes.now i (bits_left r) (number_left r) l c.loop-index.invariant.bits c.loop-index.invariant.fits
    c.loop-index.invariant.number (λ none. all_read r.bytes.now r.pending r.count none c.loop-index.invariant.reading)
