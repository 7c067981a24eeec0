-- The numbers of bare switches. bundle_reader and cocoon_cli cite it.
use Rattle.std.proofs.Common.{◌≡◌, ℕ, List, [], ◌∷◌, map, refl, ap}
use Rattle.p4_ir.specs.NetFits.{switch_numbers}
use Rattle.net_wiring.specs.Bare.{bare_switch}

pub bare_numbers : (ns : List ℕ) → switch_numbers (map bare_switch ns) ≡ ns
bare_numbers [] = refl
bare_numbers (n ∷ ns) = ap (λ ms. n ∷ ms) (bare_numbers ns)
