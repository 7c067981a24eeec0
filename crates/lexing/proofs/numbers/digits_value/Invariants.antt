use Rattle.std.proofs.Common.{drop, ◌≡◌, ◌<◌, ◌^◌}
use Rattle.lexing.specs.Numbers.{value_of}
use Rattle.lexing.proofs.SmallValues.{Goes}
use Rattle.lexing.proofs.numbers.digits_value.Given as goal

abbrev pub invariant-loop-byte : goal.invariant-loop-byte
invariant-loop-byte l = record {
  most : l.value < 2 ^ 128;
  rest : value_of l.radix l.text ≡ Goes l.radix l.value (drop l.byte-index l.text);
}
