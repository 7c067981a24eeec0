use Rattle.std.proofs.Common.{◌≡◌, ℕ, map, take}
use Rattle.net_bundle.proofs.rows_form.row.Given as goal

abbrev pub invariant-loop-pair : goal.invariant-loop-pair
invariant-loop-pair l =
    (l.values.items ≡ map (λ (p : ℕ × ℕ). p.0) (map (λ p. (p.value, p.mask)) (take l.pair-index l.pairs)))
    × (l.masks.items ≡ map (λ (p : ℕ × ℕ). p.1) (map (λ p. (p.value, p.mask)) (take l.pair-index l.pairs)))
