use Rattle.std.proofs.Common.{◌≡◌, drop}
use Rattle.cocoon_num.specs.Tokens.{dec_digit, digits_after}
use Rattle.p4_resolve.proofs.numbers.number.Given as goal

abbrev pub invariant-loop-byte : goal.invariant-loop-byte
invariant-loop-byte l = digits_after 10 dec_digit l.value (drop l.byte-index l.digits) ≡ digits_after 10 dec_digit 0 l.digits
