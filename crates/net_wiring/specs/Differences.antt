-- The first difference of two networks, in this order: the number of ports, the numbers of the switches, the hosts, the links,
-- the programs. The clauses of `wiring_only` and `wiring_differs` cite it.
use Rattle.std.specs.Prelude.{◌≡◌, ◌≢◌, ℕ, ◌-◌, ◌^◌, min, List, map, take, slice_get}
use Rattle.p4_ir.specs.NetFits.{switch_numbers}
use Rattle.p4_ir.specs.NetTree.{NetData, SwitchFiles}
use Rattle.p4_ir.specs.P4Tree.{Program}
use Rattle.net_wiring.specs.declared.wiring.Wiring.{Wiring}
use Rattle.net_wiring.specs.declared.wiring.Wiring.TheVariants.{Ports, Switches, Hosts, Links, Programs}

-- ---- lists

-- The lists are the same up to this index, and not at it. Where one begins the other, it is the length of the shorter.
abbrev pub FirstDiffers : {A : Type 0} → (old new : List A) → ℕ → Type 0
FirstDiffers old new index = (take index old ≡ take index new) × (slice_get old index ≢ slice_get new index)

-- the number that tells an index: of one that is over 2^32 - 1, this
abbrev pub reported : ℕ → ℕ
reported index = min index (2 ^ 32 - 1)

-- the number tells the index at which the lists first differ
abbrev pub DiffersAt : {A : Type 0} → (old new : List A) → ℕ → Type 0
DiffersAt old new number = (index : ℕ) × FirstDiffers old new index × (number ≡ reported index)

-- ---- networks

abbrev pub programs : List SwitchFiles → List Program
programs switches = map (λ (s : SwitchFiles). s.program) switches

abbrev pub SameSwitches : (old new : NetData) → Type 0
SameSwitches old new = (old.ports ≡ new.ports) × (switch_numbers old.switches ≡ switch_numbers new.switches)

abbrev pub SameHosts : (old new : NetData) → Type 0
SameHosts old new = SameSwitches old new × (old.hosts ≡ new.hosts)

abbrev pub SameWires : (old new : NetData) → Type 0
SameWires old new = SameHosts old new × (old.links ≡ new.links)

-- the first difference of the wires
abbrev pub FirstOfWires : (old new : NetData) → Wiring → Type 0
FirstOfWires old new Ports = old.ports ≢ new.ports
FirstOfWires old new (Switches at) = (old.ports ≡ new.ports) × DiffersAt (switch_numbers old.switches) (switch_numbers new.switches) at
FirstOfWires old new (Hosts at) = SameSwitches old new × DiffersAt old.hosts new.hosts at
FirstOfWires old new (Links at) = SameHosts old new × DiffersAt old.links new.links at
FirstOfWires old new (Programs at) = ⊥

-- the first difference of the wires and programs
abbrev pub FirstDifference : (old new : NetData) → Wiring → Type 0
FirstDifference old new (Programs at) = SameWires old new × DiffersAt (programs old.switches) (programs new.switches) at
FirstDifference old new difference = FirstOfWires old new difference
