use Rattle.std.proofs.Common.{◌≡◌, ◌+◌, ◌*◌, ◌%◌, ◌^◌, take, rules, ap, ◌∙◌, arith}
use Rattle.packed_fields.specs.Bits.{bytes_number}
use Rattle.packed_fields.proofs.Steps.{field_below, field_written, mask_is}
use Rattle.packed_fields.proofs.joining.write.Goals as goal

pub flush-requires-clause-writing : goal.flush-requires-clause-writing
flush-requires-clause-writing c =
    let w = c.args.left in
    let is : c.from.result ≡ c.args.number = search rules in
    record {
      within = c.requires.writing.within;
      bytes_fit = c.requires.writing.bytes_fit;
      below = field_below w.pending w.count c.args.width c.from.result (1 * 2 ^ c.args.width % 2 ^ 128)
          (mask_is c.args.width (omega (arith, c.requires.narrow))) c.requires.writing.below (search rules);
    }

pub returns-clause-number : goal.returns-clause-number
returns-clause-number c =
    let w = c.args.left in
    let made = bytes_number (take w.at c.args.bytes.now) in
    let is : c.from.result ≡ c.args.number = search rules in
    c.flush.ensures.number
    ∙ field_written made w.pending w.count c.args.width c.from.result (1 * 2 ^ c.args.width % 2 ^ 128) (mask_is c.args.width (omega (arith, c.requires.narrow)))
    ∙ ap (λ n. (made * 2 ^ w.count + w.pending) * 2 ^ c.args.width + n) is
