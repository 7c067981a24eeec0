-- Cited by the clauses of `wires`: the wires of the network of a design under tables of its functions.
use Rattle.std.specs.Prelude.{ℕ, List, map}
use Rattle.cocoon_num.specs.Tree.{Design}
use Rattle.net_wiring.specs.Bare.{bare_switch}
use Rattle.net_wiring.specs.Differences.{SameWires}
use Rattle.p4_ir.specs.NetTree.{NetData}
use Rattle.runtime_defs.specs.Places.{Places}
use Rattle.lowering.specs.Roles.{NetParts}
use Rattle.lowering_correct.specs.Network.{IsNetwork, network}

-- the network of these parts, with these switches and hosts, of which each switch has an empty program and no rows
abbrev pub bare_network : Design → Places → NetParts → (switches hosts : List ℕ) → NetData
bare_network d places parts switches hosts =
    record (network d places parts switches hosts) { switches = map bare_switch switches }

-- these are the wires of the network of the design
pub record HasWires (d : Design) (places : Places) (wires : NetData) : Type 0 where
  pub net : NetData
  pub is : IsNetwork d places net
  pub same : SameWires wires net
