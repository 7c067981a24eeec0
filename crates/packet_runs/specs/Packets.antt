-- Cited by the clause of `read_packets`, and by what speaks of a file of packets. What the bytes of such a file say, for the
-- hosts of a network, or which line is the first at fault, and by what. It follows the section "Packets" of docs/FORMATS.md.
use Rattle.std.specs.Prelude.{◌≡◌, ℕ, ◌+◌, ◌*◌, ◌==◌, nat_lt, if◌then◌else◌, Bool, true, false, List, [], ◌∷◌, length, Option, Some, None, option_and_then, option_map, Result, Ok, Err}
use Rattle.cocoon_num.specs.Lists.{has_number}
use Rattle.cocoon_num.specs.Tokens.{hex_digit}
use Rattle.text_lines.specs.Lines.{Line, filled_lines, parts_of}
use Rattle.text_lines.specs.Numbers.{part_number}
use Rattle.packet_runs.specs.declared.packet.PacketFault.{PacketFault}
use Rattle.packet_runs.specs.declared.packet.PacketFault.TheVariants.{Form, TooLong, NoSuchHost}

-- a packet, and the host at which it enters
pub record Packet : Type 0 where
  pub host : ℕ
  pub bytes : List ℕ

-- the most bytes that it may have
abbrev pub most_bytes : ℕ
most_bytes = 65535

-- ---- the form of a line, by its parts

-- the byte of two hexadecimal digits, of either case
abbrev pub byte_of : (high low : ℕ) → Option ℕ
byte_of high low = option_and_then (λ h. option_map (λ l. h * 16 + l) (hex_digit low)) (hex_digit high)

-- the bytes of pairs of digits
abbrev pub pairs_of : List ℕ → Option (List ℕ)
pairs_of [] = Some []
pairs_of (digit ∷ []) = None
pairs_of (high ∷ low ∷ rest) =
    option_and_then (λ byte. option_map (λ bytes. byte ∷ bytes) (pairs_of rest)) (byte_of high low)

-- the one byte `-`
abbrev pub is_dash : List ℕ → Bool
is_dash (byte ∷ []) = byte == 45
is_dash part = false

-- one pair or more; or `-`, which is no bytes
abbrev pub bytes_of : List ℕ → Option (List ℕ)
bytes_of [] = None
bytes_of (digit ∷ digits) =
    if is_dash (digit ∷ digits) then Some [] else pairs_of (digit ∷ digits)

abbrev pub both_of : (host bytes : List ℕ) → Option Packet
both_of host bytes =
    option_and_then (λ h. option_map (λ bs. record { host = h; bytes = bs }) (bytes_of bytes))
    (part_number host)

-- a host, and the bytes of a packet
abbrev pub packet_of : List (List ℕ) → Option Packet
packet_of (host ∷ bytes ∷ []) = both_of host bytes
packet_of parts = None

-- ---- lines

-- the packet of the line of this number, among these hosts: first its form, then its bytes, then its host
abbrev pub judged_at : (hosts : List ℕ) → (number : ℕ) → Option Packet → Result Packet PacketFault
judged_at hosts number None = Err (Form number)
judged_at hosts number (Some packet) =
    if nat_lt most_bytes (length packet.bytes) then Err (TooLong (length packet.bytes))
    else if has_number packet.host hosts then Ok packet
    else Err (NoSuchHost number)

abbrev pub judged : (hosts : List ℕ) → Line → Result Packet PacketFault
judged hosts line = judged_at hosts line.number (packet_of (parts_of line.bytes))

-- a packet before others, or the first fault
abbrev pub before : Result Packet PacketFault → Result (List Packet) PacketFault
    → Result (List Packet) PacketFault
before (Err fault) rest = Err fault
before (Ok packet) (Err fault) = Err fault
before (Ok packet) (Ok packets) = Ok (packet ∷ packets)

abbrev pub all_judged : (hosts : List ℕ) → List Line → Result (List Packet) PacketFault
all_judged hosts [] = Ok []
all_judged hosts (line ∷ lines) = before (judged hosts line) (all_judged hosts lines)

-- the packets of the bytes of a file, for these hosts; or the first fault
unfoldable pub packets_in : (hosts : List ℕ) → List ℕ → Result (List Packet) PacketFault
packets_in hosts bytes = all_judged hosts (filled_lines bytes)

-- each enters at one of these hosts
abbrev pub AllKnown : (hosts : List ℕ) → List Packet → Type 0
AllKnown hosts [] = Unit {0}
AllKnown hosts (packet ∷ packets) =
    (has_number packet.host hosts ≡ true) × AllKnown hosts packets
