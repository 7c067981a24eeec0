-- Cited by the clauses of `lower` and by all laws of lowering: where hosts are attached, and where links lead. It follows
-- "Lowering and the P4 text" in docs/FORMATS.md. The bodies of these roles read and change no field, so any packet does.
use Rattle.std.specs.Prelude.{ℕ, List, [], ◌∷◌, map, flat_map, if◌then◌else◌, Option, Some, None, option_and_then, option_map}
use Rattle.cocoon_num.specs.Names.{same_name}
use Rattle.cocoon_num.specs.Packets.{Layout, Packet}
use Rattle.cocoon_num.specs.Tree.{HostDecl, SwitchDecl, Design}
use Rattle.cocoon_types.specs.Design.{last_level, layout}
use Rattle.cocoon_types.specs.Runs.{Loc, World, entry_at}
use Rattle.cocoon_types.specs.Taken.{Reached, go}
use Rattle.p4_ir.specs.NetTree.{HostPort, Link, LinkEnd, to_host, to_switch}
use Rattle.role_values.specs.Worlds.{world_by}
use Rattle.runtime_defs.specs.Places.{Places}

-- a packet whose fields are all 0
abbrev pub idle : Layout → Packet
idle layout = map (λ widths. map (λ w. 0) widths) layout

-- the last level, by tables
abbrev pub last_world : Design → Places → World
last_world d places = world_by places (last_level d) d

-- where the body of a location leads without choices
abbrev pub led : Design → Places → Loc → Option Loc
led d places from = option_map (λ (r : Loc × Packet × List ℕ). r.0) (go (last_world d places) from (idle (layout d)) [])

-- ---- hosts

-- a switch and its port
abbrev pub two_numbers : List ℕ → Option (ℕ × ℕ)
two_numbers (s ∷ p ∷ []) = Some (s, p)
two_numbers _ = None

-- the switch and the port of a location of the ingress role
abbrev pub as_port : SwitchDecl → Loc → Option (ℕ × ℕ)
as_port names to = if same_name to.role names.into.text then two_numbers to.values else None

abbrev pub host_port : Design → Places → SwitchDecl → HostDecl → ℕ → HostPort
host_port d places names hosts a =
    record { host = a; attach = option_and_then (as_port names) (led d places (entry_at hosts a)) }

-- ---- links

-- a location of the egress role
abbrev pub exit_at : SwitchDecl → (switch port : ℕ) → Loc
exit_at names s p = record { role = names.out.text; values = s ∷ p ∷ [] }

abbrev pub one_number : List ℕ → Option ℕ
one_number (b ∷ []) = Some b
one_number _ = None

-- a port of a switch, or a host
abbrev pub as_end : SwitchDecl → HostDecl → Loc → Option LinkEnd
as_end names hosts to =
    if same_name to.role names.into.text then option_map (λ (at : ℕ × ℕ). to_switch at.0 at.1) (two_numbers to.values)
    else (if same_name to.role hosts.sink.text then option_map to_host (one_number to.values) else None)

abbrev pub link_with : (switch port : ℕ) → Option LinkEnd → List Link
link_with s p None = []
link_with s p (Some to) = record { switch = s; port = p; to = to } ∷ []

-- the link at a port, if there is one
abbrev pub port_link : Design → Places → SwitchDecl → HostDecl → (switch port : ℕ) → List Link
port_link d places names hosts s p = link_with s p (option_and_then (as_end names hosts) (led d places (exit_at names s p)))
