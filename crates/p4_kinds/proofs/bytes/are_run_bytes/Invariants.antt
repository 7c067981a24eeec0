use Rattle.std.proofs.Common.{◌≡◌, drop}
use Rattle.cocoon_num.specs.Lists.{each}
use Rattle.cocoon_num.specs.Tokens.{is_run_byte}
use Rattle.p4_kinds.proofs.bytes.are_run_bytes.Given as goal

abbrev pub invariant-loop-byte : goal.invariant-loop-byte
invariant-loop-byte l = each is_run_byte (drop l.byte-index l.bytes) ≡ each is_run_byte (l.bytes)
