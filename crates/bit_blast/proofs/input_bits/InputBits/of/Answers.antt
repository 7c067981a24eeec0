use Rattle.std.proofs.Common.{rules}
use Rattle.bit_blast.proofs.InputFacts.{input-row}
use Rattle.bit_blast.proofs.input_bits.InputBits.of.Goals as goal

pub returns : goal.returns
returns c =
    input-row c.args.terms.now c.args.table.now c.args.input c.input_term-term.result c.width.result c.in_ok-from_slice.field-0.items c.requires.table.arena c.input_term-term.ensures
    c.width.ensures (search rules)
