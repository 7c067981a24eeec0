-- Counts of joined terms, which stop at the last number of 64 bits.
use Rattle.std.proofs.Common.{◌≡◌, ℕ, ◌+◌, ◌*◌, ◌<◌, ◌≤◌, ◌^◌, List, [], drop, length, ap, sym, ◌∙◌, arith}
use Rattle.std.proofs.Math.Nat.{min-eq_left}
use Rattle.std.proofs.lemmas.List.{drop_all}
use Rattle.cocoon_types.specs.Limits.{reported}
use Rattle.obligation_gen.proofs.Saturation.{product_left, product_right, sum_left}

-- a number of 64 bits is reported as it is
pub as_it_is : (n : ℕ) → n < 2 ^ 64 → reported n ≡ n
as_it_is n h = min-eq_left (omega arith)

-- a count at the end of a list, behind which nothing is left
pub at_end : {X : Type 0} (F : List X → ℕ) (xs : List X) (i n : ℕ) → F [] ≡ 0 → length xs ≤ i → n < 2 ^ 64 → reported (n + F (drop i xs)) ≡ reported (F xs) → n ≡ reported (F xs)
at_end F xs i n none done fits rest =
    let left : F (drop i xs) ≡ 0 = ap F (drop_all i xs done) ∙ none in
    let all : n ≡ n + F (drop i xs) = omega (arith, left) in
    sym (as_it_is n fits) ∙ ap reported all ∙ rest

-- what a pair joins
pub each : (s : ℕ) → reported (reported (reported s * 2) + 1) ≡ reported (s * 2 + 1)
each s = ap (λ x. reported (x + 1)) (product_left s 2) ∙ sum_left (s * 2) 1

-- and what all pairs of a leaf join
pub pairs : (n s : ℕ) → reported (reported n * reported (reported (reported s * 2) + 1)) ≡ reported (n * (s * 2 + 1))
pairs n s = product_left n (reported (reported (reported s * 2) + 1)) ∙ ap (λ x. reported (n * x)) (each s) ∙ product_right n (s * 2 + 1)
