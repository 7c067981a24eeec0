-- Packets of judged lines enter at known hosts.
use Rattle.std.proofs.Common.{◌≡◌, ℕ, Bool, true, false, List, [], ◌∷◌, length, Option, Some, None, Result, Ok, Err, if◌then◌else◌, append-nil, drop, map, ◌≤◌, refl, sym, ap, subst, ◌∙◌}
use Rattle.std.specs.Prelude.{nat_lt}
use Rattle.std.proofs.lemmas.List.{at_drop_all}
use Rattle.cocoon_num.specs.Lists.{has_number}
use Rattle.text_lines.specs.LineOf.{line_of}
use Rattle.text_lines.specs.Lines.{Line, parts_of}
use Rattle.text_lines.specs.declared.lines.Line as code
use Rattle.packet_runs.specs.Judging.{joined}
use Rattle.packet_runs.specs.Packets.{AllKnown, Packet, all_judged, before, judged, judged_at, most_bytes, packet_of}
use Rattle.packet_runs.specs.declared.packet.PacketFault.{PacketFault}
use Rattle.packet_runs.specs.declared.packet.PacketFault.TheVariants.{NoSuchHost, TooLong}

host_by : (hosts : List ℕ) (n : ℕ) (p q : Packet) (long known : Bool) → has_number p.host hosts ≡ known → (if long then Err (TooLong (length p.bytes)) else if known then Ok p else Err (NoSuchHost n)) ≡ Ok q → has_number q.host hosts ≡ true
host_by hosts n p q true known e h = cc
host_by hosts n p q false false e h = cc
host_by hosts n p q false true e h = let same : p ≡ q = cc in subst (λ (x : Packet). has_number x.host hosts ≡ true) same e

host_of : (hosts : List ℕ) (n : ℕ) (o : Option Packet) (q : Packet) → judged_at hosts n o ≡ Ok q → has_number q.host hosts ≡ true
host_of hosts n None q h = cc
host_of hosts n (Some p) q h = host_by hosts n p q (nat_lt most_bytes (length p.bytes)) (has_number p.host hosts) refl h

first_known : (hosts : List ℕ) (first : Result Packet PacketFault) (rest : Result (List Packet) PacketFault) (ps : List Packet)
    → ((p : Packet) → first ≡ Ok p → has_number p.host hosts ≡ true) → ((qs : List Packet) → rest ≡ Ok qs → AllKnown hosts qs) → before first rest ≡ Ok ps → AllKnown hosts ps
first_known hosts (Err f) rest ps one more h = cc
first_known hosts (Ok p) (Err f) ps one more h = cc
first_known hosts (Ok p) (Ok qs) ps one more h = let same : p ∷ qs ≡ ps = cc in subst (AllKnown hosts) same (one p refl, more qs refl)

all_known : (hosts : List ℕ) (lines : List Line) (ps : List Packet) → all_judged hosts lines ≡ Ok ps → AllKnown hosts ps
all_known hosts [] ps h = let same : ◌≡◌ {A = List Packet} [] ps = cc in subst (AllKnown hosts) same tt
all_known hosts (line ∷ lines) ps h =
    first_known hosts (judged hosts line) (all_judged hosts lines) ps
    (λ p e. host_of hosts line.number (packet_of (parts_of line.bytes)) p e) (λ qs e. all_known hosts lines qs e) h

-- the same of a loop at its end
pub known_at_end : (hosts : List ℕ) (items : List code.Line) (i : ℕ) (ps : List Packet) → length items ≤ i → joined ps (all_judged hosts (map line_of (drop i items))) ≡ all_judged hosts (map line_of items) → AllKnown hosts ps
known_at_end hosts items i ps e h =
    all_known hosts (map line_of items) ps
    (sym h ∙ at_drop_all (λ rest. joined ps (all_judged hosts (map line_of rest))) items i e ∙ ap (λ qs. Ok qs) (append-nil ps))
