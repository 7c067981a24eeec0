-- How many numbers have a property: there is one count, and equal properties have the same.
use Rattle.std.proofs.Common.{◌≡◌, ◌⊎◌, ◌↔◌, ◌≤◌, ◌<◌, ◌+◌, Bool, true, false, nat_lt, ℕ, zero, suc, refl, sym, ap, subst, ◌∙◌, inl, inr, arith}
use Rattle.std.proofs.lemmas.Bool.Decides.{nat_tests}
use Rattle.generator.specs.Counting.{IsCount}

pub one : (Has : ℕ → Type 0) (all m n : ℕ) → IsCount Has all m → IsCount Has all n → m ≡ n
one Has zero m n h k = h ∙ sym k
one Has (suc all) m n (inl h) (inl k) = h.1.1 ∙ ap suc (one Has all h.1.0 k.1.0 h.1.2 k.1.2) ∙ sym k.1.1
one Has (suc all) m n (inl h) (inr k) = absurd (k.0 h.0)
one Has (suc all) m n (inr h) (inl k) = absurd (h.0 k.0)
one Has (suc all) m n (inr h) (inr k) = one Has all m n h.1 k.1

pub same : (P Q : ℕ → Type 0) → ((n : ℕ) → P n ↔ Q n) → (all count : ℕ) → IsCount P all count → IsCount Q all count
same P Q f zero count h = h
same P Q f (suc n) count (inl h) = inl ((f n).0 h.0, (h.1.0, h.1.1, same P Q f n h.1.0 h.1.2))
same P Q f (suc n) count (inr h) = inr ((λ q. h.0 ((f n).1 q)), same P Q f n count h.1)

-- one number more
next : (n : ℕ) → suc n ≡ n + 1
next n = omega (arith)

pub more : (Has : ℕ → Type 0) (n count : ℕ) → Has n → IsCount Has n count → IsCount Has (n + 1) (count + 1)
more Has n count has h =
    subst (λ (m : ℕ). IsCount Has m (count + 1)) (next n) (subst (λ (k : ℕ). IsCount Has (suc n) k) (next count) (inl (has, (count, refl, h))))

pub no_more : (Has : ℕ → Type 0) (n count : ℕ) → (Has n → ⊥) → IsCount Has n count → IsCount Has (n + 1) count
no_more Has n count not h = subst (λ (m : ℕ). IsCount Has m count) (next n) (inr (not, h))

-- a bound of each of so many numbers, and of the next one
further : (size : ℕ → ℕ) (most n k : ℕ) (b : Bool) → nat_lt k n ≡ b → ((j : ℕ) → j < n → size j ≤ most) → size n ≤ most → k < n + 1 → size k ≤ most
further size most n k true e all last l = let test : nat_lt k n ≡ true = e in all k (grind (arith, nat_tests, test))
further size most n k false e all last l =
    let test : nat_lt k n ≡ false = e in
    let from : n ≤ k = grind (arith, nat_tests, test) in
    let same : k ≡ n = omega (arith, from, l) in subst (λ (m : ℕ). size m ≤ most) (sym same) last

pub one_further : (size : ℕ → ℕ) (most n : ℕ) → ((k : ℕ) → k < n → size k ≤ most) → size n ≤ most → (k : ℕ) → k < n + 1 → size k ≤ most
one_further size most n all last k l = further size most n k (nat_lt k n) refl all last l
