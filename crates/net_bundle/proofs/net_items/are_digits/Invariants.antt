use Rattle.std.proofs.Common.{◌≡◌, ◌&&◌, ◌||◌, nat_le, drop}
use Rattle.cocoon_num.specs.Lists.{each}
use Rattle.net_bundle.proofs.net_items.are_digits.Given as goal

abbrev pub invariant-loop-byte : goal.invariant-loop-byte
invariant-loop-byte l =
    each (λ b. (nat_le 48 b && nat_le b 57) || (nat_le 97 b && nat_le b 102)) (drop l.byte-index l.bytes) ≡ each (λ b. (nat_le 48 b && nat_le b 57) || (nat_le 97 b && nat_le b 102)) l.bytes
