-- A network and the one of bare switches have the same wires.
use Rattle.std.proofs.Common.{◌≡◌, ℕ, List, [], ◌∷◌, map, Some, refl, sym, ap, subst}
use Rattle.cocoon_num.specs.Tree.{Design}
use Rattle.net_wiring.specs.Bare.{bare_switch}
use Rattle.net_wiring.specs.Differences.{SameWires}
use Rattle.p4_ir.specs.NetFits.{switch_numbers}
use Rattle.p4_ir.specs.NetTree.{NetData}
use Rattle.runtime_defs.specs.Places.{Places}
use Rattle.lowering.specs.Roles.{NetParts, net_parts}
use Rattle.lowering_correct.specs.Network.{HasNumbers, network, switch_files}
use Rattle.lower_net.specs.Wired.{HasWires, bare_network}

same_numbers : (d : Design) (places : Places) (parts : NetParts) (ns : List ℕ) → switch_numbers (map bare_switch ns) ≡ switch_numbers (map (switch_files d places parts) ns)
same_numbers d places parts [] = refl
same_numbers d places parts (n ∷ ns) = ap (λ ms. n ∷ ms) (same_numbers d places parts ns)

bare_wires : (d : Design) (places : Places) (parts : NetParts) (ns hs : List ℕ) → SameWires (bare_network d places parts ns hs) (network d places parts ns hs)
bare_wires d places parts ns hs = (((refl, same_numbers d places parts ns), refl), refl)

pub has_wires : (d : Design) (places : Places) (parts : NetParts) (ns hs : List ℕ) (wires : NetData) → net_parts d ≡ Some parts → HasNumbers d places ns hs → wires ≡ bare_network d places parts ns hs → HasWires d places wires
has_wires d places parts ns hs wires are numbers is = record {
  net = network d places parts ns hs;
  is = record { parts = parts; parts_are = are; switches = ns; hosts = hs; numbers = numbers; net_is = refl };
  same = subst (λ (w : NetData). SameWires w (network d places parts ns hs)) (sym is) (bare_wires d places parts ns hs);
}
