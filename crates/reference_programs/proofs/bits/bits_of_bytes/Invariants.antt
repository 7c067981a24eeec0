use Rattle.std.proofs.Common.{◌≡◌, ◌++◌, length, drop}
use Rattle.cocoon_num.specs.Packets.{eights}
use Rattle.reference_programs.specs.Widths.{bits_of}
use Rattle.reference_programs.proofs.bits.bits_of_bytes.Given as goal

-- the bits so far, and those of the bytes that are left, are those of all bytes
abbrev pub invariant-loop-byte : goal.invariant-loop-byte
invariant-loop-byte l = l.bits.items ++ bits_of (eights (length (drop l.byte-index l.bytes))) (drop l.byte-index l.bytes) ≡ bits_of (eights (length l.bytes)) l.bytes
