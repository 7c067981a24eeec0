-- Cited by the clauses of all that reads fields: the packet that the numbers of all fields, one after another, stand for.
use Rattle.std.specs.Prelude.{ℕ, List, [], ◌∷◌, length, take, drop}
use Rattle.cocoon_num.specs.Packets.{Packet}
use Rattle.cocoon_num.specs.Tree.{HeaderDecl}

-- the packet of these headers, header by header
abbrev pub packet_of : List HeaderDecl → List ℕ → Packet
packet_of [] ns = []
packet_of (h ∷ hs) ns = take (length h.fields) ns ∷ packet_of hs (drop (length h.fields) ns)
