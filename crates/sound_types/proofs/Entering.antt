-- A packet that enters fits its layout.
use Rattle.std.proofs.Common.{◌≡◌, ℕ, ◌/◌, ◌^◌, List, [], ◌∷◌, take, drop, Bool, true, false, nat_lt, length, Option, Some, None, if◌then◌else◌, option_map, subst}
use Rattle.std.proofs.Math.Nat.{mod-lt}
use Rattle.std.proofs.lemmas.Nat.{pow_pos}
use Rattle.cocoon_num.specs.PacketForms.{FieldsFit, PacketFits}
use Rattle.cocoon_num.specs.Packets.{Layout, Packet, byte_count, cut, enter, header_fields, total}

cut_fits : (ws : List ℕ) (n : ℕ) → FieldsFit ws (cut ws n)
cut_fits [] n = tt
cut_fits (w ∷ ws) n = (mod-lt (n / 2 ^ total ws) (pow_pos w), cut_fits ws n)

-- what entered, if anything did
abbrev Fits : Layout → Option (Packet × List ℕ) → Type 0
Fits layout None = Unit {0}
Fits layout (Some e) = PacketFits layout e.0

one_more : (ws : List ℕ) (layout : Layout) (fields : List ℕ) (o : Option (Packet × List ℕ)) (short : Bool) → FieldsFit ws fields → Fits layout o
    → Fits (ws ∷ layout) (if short then None else option_map (λ e. (fields ∷ e.0, e.1)) o)
one_more ws layout fields o true h k = tt
one_more ws layout fields None false h k = tt
one_more ws layout fields (Some e) false h k = (h, k)

enters : (layout : Layout) (bytes : List ℕ) → Fits layout (enter layout bytes)
enters [] bytes = tt
enters (ws ∷ layout) bytes =
    let prefix = take (byte_count ws) bytes in
    let rest = drop (byte_count ws) bytes in
    one_more ws layout (header_fields ws prefix) (enter layout rest) (nat_lt (length bytes) (byte_count ws)) (cut_fits ws _) (enters layout rest)

pub entered_fits : (layout : Layout) (bytes : List ℕ) (packet : Packet) (payload : List ℕ) → enter layout bytes ≡ Some (packet, payload) → PacketFits layout packet
entered_fits layout bytes packet payload e = subst (Fits layout) e (enters layout bytes)
