-- Switches that share a program and rows, and what is known of the switch at an index.
use Rattle.std.proofs.Common.{◌≡◌, ℕ, zero, suc, List, [], ◌∷◌, Some, map, slice_get, refl, sym, ap, ◌∙◌}
use Rattle.p4_ir.specs.NetFits.{switch_numbers}
use Rattle.p4_ir.specs.NetOf.{rows_of}
use Rattle.p4_ir.specs.NetTree.{SwitchFiles}
use Rattle.shared_net.specs.Shared.{shared_switch}
use Rattle.shared_net.specs.declared.network.SharedSwitches.{SharedSwitches}
use Rattle.net_bundle.specs.SharedRows.{AllHave, OfSwitch}

pub shared_numbers : (ss : SharedSwitches) (ns : List ℕ) → ns ≡ switch_numbers (map (shared_switch ss) ns)
shared_numbers ss [] = refl
shared_numbers ss (n ∷ ns) = ap (λ ms. n ∷ ms) (shared_numbers ss ns)

-- each has the rows
pub all_share : (ss : SharedSwitches) (ns : List ℕ) → AllHave (rows_of ss.rows) (map (shared_switch ss) ns)
all_share ss [] i s e = cc
all_share ss (n ∷ ns) zero s e = let same : shared_switch ss n ≡ s = cc in sym (ap (λ (x : SwitchFiles). x.rows) same)
all_share ss (n ∷ ns) (suc i) s e = all_share ss ns i s e

-- what the switch that is found at an index has
pub found_has : {A : Type 0} (f : SwitchFiles → A) (ss : List SwitchFiles) (i : ℕ) (t : SwitchFiles) → slice_get ss i ≡ Some t → OfSwitch ss i (λ s. f s ≡ f t)
found_has f ss i t found s e = let same : s ≡ t = cc in ap f same

-- and that is the shared one of the number at this index
pub shared_at : (ss : SharedSwitches) (ns : List ℕ) (i n : ℕ) → slice_get ns i ≡ Some n → OfSwitch (map (shared_switch ss) ns) i (λ s. s ≡ shared_switch ss n)
shared_at ss [] i n found s e = cc
shared_at ss (m ∷ ns) zero n found s e =
    let same : m ≡ n = cc in
    let is : shared_switch ss m ≡ s = cc in
    sym is ∙ ap (shared_switch ss) same
shared_at ss (m ∷ ns) (suc i) n found s e = shared_at ss ns i n found s e
