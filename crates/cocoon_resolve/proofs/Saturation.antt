-- Sums and products that stop at a number: it is enough to stop at the end.
use Rattle.std.specs.Prelude.{◌≡◌, ℕ, zero, suc, ◌+◌, ◌*◌, ◌-◌, ◌^◌, ◌≤◌, ◌<◌, min, refl}
use Rattle.std.proofs.Common.{sym, ◌∙◌, ap, inl, inr, arith}
use Rattle.std.proofs.Math.Nat.{le-mul_of_pos_right, mul_comm, mul-zero, min-eq_left, min-eq_right}
use Rattle.std.proofs.lemmas.Bool.{cases_lt}
use Rattle.cocoon_types.specs.Limits.{reported}

-- over any number
sum_right_at : (m a b : ℕ) → min (a + min b m) m ≡ min (a + b) m
sum_right_at m a b = omega arith

sum_left_at : (m a b : ℕ) → min (min a m + b) m ≡ min (a + b) m
sum_left_at m a b = omega arith

product_left_at : (m a b : ℕ) → min (min a m * b) m ≡ min (a * b) m
product_left_at m a b = elim (cases_lt m a) [
  | inr h ↦ ap (λ x. min (x * b) m) (min-eq_left h)
  | inl h ↦ ap (λ x. min (x * b) m) (min-eq_right (lt-le h)) ∙ past b h
]
  where
    lt-le : m < a → m ≤ a
    lt-le h = omega arith

    past : (b : ℕ) → m < a → min (m * b) m ≡ min (a * b) m
    past zero h = rw (mul-zero m, mul-zero a) refl
    past (suc b) h =
        let lt : zero < suc b = omega arith in
        let more : m ≤ a * suc b = omega (arith, le-mul_of_pos_right a lt) in
        min-eq_right (le-mul_of_pos_right m lt) ∙ sym (min-eq_right more)

pub sum_right : (a b : ℕ) → reported (a + reported b) ≡ reported (a + b)
sum_right a b = sum_right_at (2 ^ 64 - 1) a b

pub sum_left : (a b : ℕ) → reported (reported a + b) ≡ reported (a + b)
sum_left a b = sum_left_at (2 ^ 64 - 1) a b

pub product_left : (a b : ℕ) → reported (reported a * b) ≡ reported (a * b)
product_left a b = product_left_at (2 ^ 64 - 1) a b

pub product_right : (a b : ℕ) → reported (a * reported b) ≡ reported (a * b)
product_right a b = ap reported (mul_comm a (reported b)) ∙ product_left b a ∙ ap reported (mul_comm b a)

pub reported_again : (a : ℕ) → reported (reported a) ≡ reported a
reported_again a = again_at (2 ^ 64 - 1) a
  where
    again_at : (m a : ℕ) → min (min a m) m ≡ min a m
    again_at m a = omega arith
