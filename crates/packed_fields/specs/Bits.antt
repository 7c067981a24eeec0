-- Cited by the private clauses of `cutting` and `joining`: the bits that are left to read, and those that were written, as
-- one number.
use Rattle.std.specs.Prelude.{ℕ, ◌+◌, ◌*◌, ◌<◌, ◌≤◌, ◌^◌, List, length, take}
use Rattle.cocoon_num.specs.PacketForms.{FieldsFit}
use Rattle.cocoon_num.specs.Packets.{eights, packed}
use Rattle.packed_fields.specs.declared.cutting.Reader.{Reader}
use Rattle.packed_fields.specs.declared.joining.Unwritten.{Unwritten}

-- the number that bytes make
abbrev pub bytes_number : List ℕ → ℕ
bytes_number bs = packed (eights (length bs)) bs

-- how many bits are left to read
abbrev pub bits_left : Reader → ℕ
bits_left r = r.count + 8 * length r.bytes.now

-- the number that they make
abbrev pub number_left : Reader → ℕ
number_left r = r.pending * 2 ^ (8 * length r.bytes.now) + bytes_number r.bytes.now

-- what is pending has no more bits than are counted
abbrev pub IsReading : Reader → Type 0
IsReading r = r.pending < 2 ^ r.count

-- how many bits were written
abbrev pub bits_made : Unwritten → ℕ
bits_made w = 8 * w.at + w.count

-- the number that they make
abbrev pub number_made : Unwritten → List ℕ → ℕ
number_made w bytes = bytes_number (take w.at bytes) * 2 ^ w.count + w.pending

-- what was written are bytes, and what is pending has no more bits than are counted
pub record IsWriting (w : Unwritten) (bytes : List ℕ) : Type 0 where
  pub within : w.at ≤ length bytes
  pub bytes_fit : FieldsFit (eights (length (take w.at bytes))) (take w.at bytes)
  pub below : w.pending < 2 ^ w.count
