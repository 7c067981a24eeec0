use Rattle.std.proofs.Common.{◌≡◌, ◌<◌, ◌^◌, drop}
use Rattle.cocoon_num.specs.Tokens as tokens
use Rattle.text_lines.proofs.numbers.decimal_value.Given as goal

abbrev pub invariant-loop-byte : goal.invariant-loop-byte
invariant-loop-byte l = record {
  small : l.value < 10 ^ l.byte-index;
  rest : tokens.decimal_value l.digits ≡ tokens.digits_after 10 tokens.dec_digit l.value (drop l.byte-index l.digits);
}
