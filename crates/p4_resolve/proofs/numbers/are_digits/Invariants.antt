use Rattle.std.proofs.Common.{◌≡◌, drop}
use Rattle.cocoon_num.specs.Lists.{each}
use Rattle.cocoon_num.specs.Tokens.{is_digit}
use Rattle.p4_resolve.proofs.numbers.are_digits.Given as goal

abbrev pub invariant-loop-byte : goal.invariant-loop-byte
invariant-loop-byte l = each is_digit (drop l.byte-index l.bytes) ≡ each is_digit l.bytes
