use Rattle.std.proofs.Common.{◌≡◌, ◌∷◌, drop, map}
use Rattle.p4_ir.specs.NetOf.{link_of}
use Rattle.p4_ir.specs.NetTree as tree
use Rattle.p4_ir.specs.Wiring.{pairs_ascend}
use Rattle.net_bundle.proofs.net_rules.rises.Given as goal

abbrev pub invariant-loop-link : goal.invariant-loop-link
invariant-loop-link l =
    pairs_ascend ((l.last.switch, l.last.port) ∷ map (λ (l : tree.Link). (l.switch, l.port)) (map link_of (drop l.link-index l.rest)))
    ≡ pairs_ascend ((l.fn.first.switch, l.fn.first.port) ∷ map (λ (l : tree.Link). (l.switch, l.port)) (map link_of l.rest))
