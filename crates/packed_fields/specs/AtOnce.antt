-- Cited by the laws of headers at once: packets of all headers, whose fields lie one after another.
use Rattle.std.specs.Prelude.{ℕ, ◌/◌, ◌++◌, List, [], ◌∷◌, length, take, drop, nat_lt, if◌then◌else◌, Option, Some, None}
use Rattle.cocoon_num.specs.Packets.{header_fields, Layout, Packet, total}

-- the widths of the fields of all headers
abbrev pub widths_in : Layout → List ℕ
widths_in [] = []
widths_in (ws ∷ layout) = ws ++ widths_in layout

-- how many bytes the headers have
abbrev pub bytes_in : Layout → ℕ
bytes_in layout = total (widths_in layout) / 8

-- the packet of some fields, header by header
abbrev pub grouped : Layout → List ℕ → Packet
grouped [] ns = []
grouped (ws ∷ layout) ns = take (length ws) ns ∷ grouped layout (drop (length ws) ns)

-- the packet whose fields some bytes hold, and the payload, where the bytes are enough
abbrev pub entered_at_once : Layout → List ℕ → Option (Packet × List ℕ)
entered_at_once layout bytes =
    if nat_lt (length bytes) (bytes_in layout) then None
    else Some (grouped layout (header_fields (widths_in layout) (take (bytes_in layout) bytes)), drop (bytes_in layout) bytes)
