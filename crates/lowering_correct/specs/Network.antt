-- Cited by the clauses of `lower` and by all laws of lowering: the network of a design under tables of its functions. It
-- follows "Lowering and the P4 text" in docs/FORMATS.md.
use Rattle.std.specs.Prelude.{◌≡◌, ℕ, List, suc, zero, map, flat_map, [], ◌∷◌, Some}
use Rattle.cocoon_num.specs.Tree.{Design}
use Rattle.p4_ir.specs.NetTree.{NetData, SwitchFiles}
use Rattle.runtime_defs.specs.Guards.{ListsTrue, host_table, switch_table}
use Rattle.runtime_defs.specs.Places.{Places}
use Rattle.lowering.specs.Roles.{NetParts, net_parts}
use Rattle.lowering.specs.SwitchProgram.{switch_made, switch_program}
use Rattle.lowering_correct.specs.SwitchRows.{switch_rows}
use Rattle.lowering_correct.specs.Wires.{host_port, port_link}

-- the switch of a number
abbrev pub switch_files : Design → Places → NetParts → ℕ → SwitchFiles
switch_files d places parts s = record {
  number = s;
  program = switch_program parts.role s;
  rows = switch_rows d places (switch_made parts.role s);
}

-- so many numbers from k on
abbrev pub numbers_from : ℕ → ℕ → List ℕ
numbers_from k zero = []
numbers_from k (suc n) = k ∷ numbers_from (suc k) n

-- with these switches and hosts
abbrev pub network : Design → Places → NetParts → (switches hosts : List ℕ) → NetData
network d places parts switches hosts = record {
  ports = parts.switches.ports;
  switches = map (switch_files d places parts) switches;
  links = flat_map (λ s. flat_map (port_link d places parts.switches parts.hosts s) (numbers_from 0 parts.switches.ports)) switches;
  hosts = map (host_port d places parts.switches parts.hosts) hosts;
}

-- the numbers at which the guards are true
pub record HasNumbers (d : Design) (places : Places) (switches hosts : List ℕ) : Type 0 where
  pub switches_are : ListsTrue 16 (switch_table d places) switches
  pub hosts_are : ListsTrue 64 (host_table d places) hosts

-- the network of the design under these tables
pub record IsNetwork (d : Design) (places : Places) (net : NetData) : Type 0 where
  pub parts : NetParts
  pub parts_are : net_parts d ≡ Some parts
  pub switches : List ℕ
  pub hosts : List ℕ
  pub numbers : HasNumbers d places switches hosts
  pub net_is : net ≡ network d places parts switches hosts
