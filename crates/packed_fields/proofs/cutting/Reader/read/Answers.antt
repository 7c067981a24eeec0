use Rattle.std.proofs.Common.{◌≡◌, ◌+◌, ◌-◌, ◌*◌, ◌/◌, ◌%◌, ◌^◌, ◌<◌, ◌≤◌, length, rules, sym, ◌∙◌, arith}
use Rattle.std.proofs.Math.Pow.{pow_mono}
use Rattle.packed_fields.specs.Bits.{bytes_number}
use Rattle.packed_fields.proofs.Steps.{field_read, mask_is, upper_below}
use Rattle.packed_fields.proofs.cutting.Reader.read.Goals as goal

pub overflow_cast-result : goal.overflow_cast-result
overflow_cast-result c =
    let r = c.fill.new.self in
    let b : c.args.width + (r.count - c.args.width) ≡ r.count = omega (arith, c.fill.ensures.enough) in
    let l = upper_below r.pending c.args.width (r.count - c.args.width) r.count b c.fill.ensures.reading in
    let m : 2 ^ c.args.width ≤ 2 ^ 64 = pow_mono {i = c.args.width} {j = 64} c.requires.narrow in
    let small : r.pending / 2 ^ (r.count - c.args.width) < 2 ^ 64 = omega (arith, l, m) in
    search rules

pub returns-clause-fits : goal.returns-clause-fits
returns-clause-fits c =
    let r = c.fill.new.self in
    let b : c.args.width + (r.count - c.args.width) ≡ r.count = omega (arith, c.fill.ensures.enough) in
    upper_below r.pending c.args.width (r.count - c.args.width) r.count b c.fill.ensures.reading

pub returns-clause-number : goal.returns-clause-number
returns-clause-number c =
    let r = c.fill.new.self in
    let b = r.count - c.args.width in
    let low : b < 128 = omega (arith, c.fill.ensures.short) in
    sym c.fill.ensures.number ∙ field_read r.pending b (8 * length r.bytes.now) (bytes_number r.bytes.now) (1 * 2 ^ b % 2 ^ 128) (mask_is b low)
