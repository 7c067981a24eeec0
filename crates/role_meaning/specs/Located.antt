-- Cited by the clauses of runs: the locations and packets of the definitions that those of the code stand for.
use Rattle.std.specs.Prelude.{ℕ, ◌/◌, List, [], drop, slice_get}
use Rattle.std.specs.Option.{option_map_or}
use Rattle.cocoon_num.specs.Packets as packets
use Rattle.cocoon_num.specs.Packets.{total}
use Rattle.cocoon_num.specs.Tree.{Design}
use Rattle.cocoon_resolve.specs.Readers.{field_widths}
use Rattle.cocoon_types.specs.RuleParts.{roles_of}
use Rattle.cocoon_types.specs.Runs as runs
use Rattle.declarations.specs.Declares.{role_texts}
use Rattle.declarations.specs.NameNumbers.{firsts}
use Rattle.role_meaning.specs.declared.place.Loc.{Loc}
use Rattle.role_meaning.specs.declared.place.Packet.{Packet}
use Rattle.role_values.specs.Flat.{packet_of}

-- the name of the role of a number, in the order of first declarations
abbrev pub role_name : Design → ℕ → List ℕ
role_name d n = option_map_or (λ (x : List ℕ). x) (slice_get (firsts (role_texts (roles_of d))) n) []

-- the location
abbrev pub loc_of : Design → Loc → runs.Loc
loc_of d at = record { role = role_name d at.role; values = at.values }

-- a location of the code
abbrev pub at_role : ℕ → List ℕ → Loc
at_role n ns = record { role = n; values = ns }

-- the packet
abbrev pub sent_of : Design → Packet → packets.Packet
sent_of d packet = packet_of d.headers packet.fields

-- a packet that entered from some bytes, with the payload
abbrev pub entered_from : Design → List ℕ → Packet → packets.Packet × List ℕ
entered_from d bytes packet = (sent_of d packet, drop (total (field_widths d) / 8) bytes)
