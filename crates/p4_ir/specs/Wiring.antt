-- Which wires a network may have: numbers are in their ranges, lists ascend, and a named switch, port or host is there. It
-- follows "How a bundle is read back" in docs/FORMATS.md.
use Rattle.std.specs.Prelude.{ℕ, ◌^◌, ◌==◌, ◌&&◌, ◌||◌, Bool, true, nat_lt, List, [], ◌∷◌, map, Option, Some, None}
use Rattle.cocoon_num.specs.Lists.{each, ascend, has_number}
use Rattle.p4_ir.specs.NetTree.{LinkEnd, to_switch, to_host, Link, HostPort}

-- pairs of numbers in ascending order, each once
abbrev pub pairs_ascend : List (ℕ × ℕ) → Bool
pairs_ascend [] = true
pairs_ascend (x ∷ []) = true
pairs_ascend (x ∷ y ∷ rest) = (nat_lt x.0 y.0 || ((x.0 == y.0) && nat_lt x.1 y.1)) && pairs_ascend (y ∷ rest)

abbrev pub host_numbers : List HostPort → List ℕ
host_numbers hosts = map (λ (h : HostPort). h.host) hosts

-- how many ports each switch has, the numbers of the switches, and the wires between them
pub record Wiring : Type 0 where
  pub ports : ℕ
  pub switches : List ℕ
  pub links : List Link
  pub hosts : List HostPort

-- a port of a switch of the network
abbrev pub is_location : Wiring → ℕ → ℕ → Bool
is_location w s p = has_number s w.switches && nat_lt p w.ports

-- a link ends at a port of the network, or at a host of it
abbrev pub end_fits : Wiring → LinkEnd → Bool
end_fits w (to_switch s p) = is_location w s p
end_fits w (to_host h) = has_number h (host_numbers w.hosts)

-- a host is attached at a port of the network, or nowhere
abbrev pub attach_fits : Wiring → Option (ℕ × ℕ) → Bool
attach_fits w None = true
attach_fits w (Some at) = is_location w at.0 at.1

abbrev pub host_fits : Wiring → HostPort → Bool
host_fits w h = nat_lt h.host (2 ^ 64) && attach_fits w h.attach

abbrev pub link_fits : Wiring → Link → Bool
link_fits w l = is_location w l.switch l.port && end_fits w l.to

-- numbers are in their ranges, lists ascend, a port is below the count, and a named switch or host is in its list
abbrev pub wiring_fits : Wiring → Bool
wiring_fits w =
    nat_lt w.ports (2 ^ 16)
    && each (λ s. nat_lt s (2 ^ 16)) w.switches && ascend w.switches
    && each (host_fits w) w.hosts && ascend (host_numbers w.hosts)
    && each (link_fits w) w.links && pairs_ascend (map (λ (l : Link). (l.switch, l.port)) w.links)
