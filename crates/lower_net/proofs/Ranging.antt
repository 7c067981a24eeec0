-- The links of ports, one by one.
use Rattle.std.proofs.Common.{◌≡◌, ℕ, suc, ◌+◌, ◌-◌, ◌<◌, List, ◌++◌, ap, ◌∙◌, arith}
use Rattle.std.specs.Prelude.{flat_map}
use Rattle.lowering_correct.specs.Network.{numbers_from}

more : (k n : ℕ) → k < n → n - k ≡ suc (n - (k + 1))
more k n h = omega arith

add-one : (k : ℕ) → suc k ≡ k + 1
add-one k = omega arith

pub numbers_step : {A : Type 0} (f : ℕ → List A) (k n : ℕ) → k < n → flat_map f (numbers_from k (n - k)) ≡ f k ++ flat_map f (numbers_from (k + 1) (n - (k + 1)))
numbers_step f k n h =
    ap (λ m. flat_map f (numbers_from k m)) (more k n h) ∙ ap (λ j. f k ++ flat_map f (numbers_from j (n - (k + 1)))) (add-one k)

none-left : (n : ℕ) → n - n ≡ 0
none-left n = omega arith

pub numbers_end : {A : Type 0} (f : ℕ → List A) (k n : ℕ) → n ≡ k → flat_map f (numbers_from k (n - k)) ≡ flat_map f (numbers_from k 0)
numbers_end f k n h = ap (λ m. flat_map f (numbers_from k m)) (ap (λ m. m - k) h ∙ none-left k)
