-- Packets of a layout, and the bytes and layouts for which `enter` and `leave` undo each other. The clauses of the laws of
-- packets cite them, and those of the reference programs.
use Rattle.std.specs.Prelude.{◌≡◌, ℕ, ◌<◌, ◌^◌, ◌%◌, List, [], ◌∷◌}
use Rattle.cocoon_num.specs.Packets.{Packet, Layout, total}

-- numbers fit widths, as many
abbrev pub FieldsFit : List ℕ → List ℕ → Type 0
FieldsFit [] [] = Unit {0}
FieldsFit (w ∷ ws) (n ∷ ns) = (n < 2 ^ w) × FieldsFit ws ns
FieldsFit _ _ = ⊥

-- the packet is one of this layout
abbrev pub PacketFits : Layout → Packet → Type 0
PacketFits [] [] = Unit {0}
PacketFits (ws ∷ layout) (ns ∷ packet) = FieldsFit ws ns × PacketFits layout packet
PacketFits _ _ = ⊥

-- each number is one of a byte
abbrev pub AreBytes : List ℕ → Type 0
AreBytes [] = Unit {0}
AreBytes (b ∷ bs) = (b < 256) × AreBytes bs

-- each header has a whole number of bytes
abbrev pub AllWhole : Layout → Type 0
AllWhole [] = Unit {0}
AllWhole (ws ∷ layout) = (total ws % 8 ≡ 0) × AllWhole layout
