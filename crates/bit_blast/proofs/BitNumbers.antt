-- Numbers by their bits, and what gates make of them.
use Rattle.std.proofs.Common.{◌≡◌, ℕ, ◌+◌, ◌*◌, ◌/◌, ◌%◌, ◌^◌, ◌<◌, ◌≤◌, ◌==◌, suc, Bool, true, false, not, ◌&&◌, ◌||◌, refl, ap, sym, ◌∙◌, arith, inl, inr}
use Rattle.std.specs.Prelude.{if◌then◌else◌, bit_and, bit_or, bit_xor, min, max, nat_lt}
use Rattle.std.specs.Bool.{beq}
use Rattle.std.specs.Int.Bits.{and_step, differ, or_step, xor_step}
use Rattle.std.proofs.Math.Nat.{add-mul-mod_self_left, mod-eq_of_lt, pow-succ'}
use Rattle.std.proofs.lemmas.Bool.{cases_lt, cases_eq, eq-eqb, eqb-true, false_from_ne_true, lt-ltb, le-ltb}

-- a bit as a number
abbrev pub bit : Bool → ℕ
bit b = if b then 1 else 0

pub two-pow : (n : ℕ) → 2 ^ suc n ≡ 2 * 2 ^ n
two-pow n = pow-succ' 2 n

pub twice-pow : (n q : ℕ) → 2 ^ suc n * q ≡ 2 * (2 ^ n * q)
twice-pow n q = ap (λ p. p * q) (two-pow n) ∙ (grind arith)

pub beq-same : (a b : Bool) → beq a b ≡ true → a ≡ b
beq-same true true h = refl
beq-same true false h = absurd cc
beq-same false true h = absurd cc
beq-same false false h = refl

half : (x : Bool) (n : ℕ) → (bit x + 2 * n) / 2 ≡ n
half true n = omega arith
half false n = omega arith

low : (x : Bool) (n : ℕ) → (bit x + 2 * n) % 2 ≡ bit x
low true n = omega arith
low false n = omega arith

pub and-bits : (x y : Bool) (a b : ℕ) → bit (x && y) + 2 * bit_and a b ≡ bit_and (bit x + 2 * a) (bit y + 2 * b)
and-bits x y a b = finish x y ∙ sym (and_step (bit x + 2 * a) (bit y + 2 * b) ∙ rw (half x a, half y b, low x a, low y b) refl)
  where
    finish : (x y : Bool) → bit (x && y) + 2 * bit_and a b ≡ bit_and a b * 2 + min (bit x) (bit y)
    finish true true = omega arith
    finish true false = omega arith
    finish false true = omega arith
    finish false false = omega arith

pub or-bits : (x y : Bool) (a b : ℕ) → bit (x || y) + 2 * bit_or a b ≡ bit_or (bit x + 2 * a) (bit y + 2 * b)
or-bits x y a b = finish x y ∙ sym (or_step (bit x + 2 * a) (bit y + 2 * b) ∙ rw (half x a, half y b, low x a, low y b) refl)
  where
    finish : (x y : Bool) → bit (x || y) + 2 * bit_or a b ≡ bit_or a b * 2 + max (bit x) (bit y)
    finish true true = omega arith
    finish true false = omega arith
    finish false true = omega arith
    finish false false = omega arith

pub xor-bits : (x y : Bool) (a b : ℕ) → bit (not (beq x y)) + 2 * bit_xor a b ≡ bit_xor (bit x + 2 * a) (bit y + 2 * b)
xor-bits x y a b = finish x y ∙ sym (xor_step (bit x + 2 * a) (bit y + 2 * b) ∙ rw (half x a, half y b, low x a, low y b) refl)
  where
    finish : (x y : Bool) → bit (not (beq x y)) + 2 * bit_xor a b ≡ bit_xor a b * 2 + differ (bit x) (bit y)
    finish true true = omega arith
    finish true false = omega arith
    finish false true = omega arith
    finish false false = omega arith

pub adder : (x y c : Bool) → bit (not (beq (not (beq x y)) c)) + 2 * bit (x && y || x && c || y && c) ≡ bit x + bit y + bit c
adder true true true = refl
adder true true false = refl
adder true false true = refl
adder true false false = refl
adder false true true = refl
adder false true false = refl
adder false false true = refl
adder false false false = refl

pub bit-small : (x : Bool) → bit x ≤ 1
bit-small true = omega arith
bit-small false = omega arith

pub pair-below : (x : Bool) (n k : ℕ) → n < 2 ^ k → bit x + 2 * n < 2 ^ suc k
pair-below x n k h = (let b = bit-small x in let p = two-pow k in omega arith)

-- the sum of one more bit
pub add-bits : (x y c : Bool) (a b r q k : ℕ) → r + 2 ^ k * q ≡ a + b + bit (x && y || x && c || y && c)
    → (bit (not (beq (not (beq x y)) c)) + 2 * r) + 2 ^ suc k * q ≡ (bit x + 2 * a) + (bit y + 2 * b) + bit c
add-bits x y c a b r q k h =
    (let t = twice-pow k q in let s = adder x y c in omega arith)

same-bit : (x y : Bool) (a b : ℕ) → bit x + 2 * a ≡ bit y + 2 * b → (x ≡ y) × (a ≡ b)
same-bit true true a b h = (refl, omega arith)
same-bit true false a b h = absurd (omega arith)
same-bit false true a b h = absurd (omega arith)
same-bit false false a b h = (refl, omega arith)

beq-itself : (x : Bool) → beq x x ≡ true
beq-itself true = refl
beq-itself false = refl

pub and-false : (x : Bool) → (x && false) ≡ false
and-false true = refl
and-false false = refl

pub and-true : (x : Bool) → (x && true) ≡ x
and-true true = refl
and-true false = refl

pub equal-bits : (x y : Bool) (a b : ℕ) → (beq x y && a == b) ≡ (bit x + 2 * a == bit y + 2 * b)
equal-bits x y a b = elim (cases_eq (bit x + 2 * a) (bit y + 2 * b)) [
  | inl e ↦
      let s = same-bit x y a b e in
      ap (λ z. beq x z && a == b) (sym s.0) ∙ ap (λ t. t && a == b) (beq-itself x) ∙ eq-eqb a b s.1 ∙ sym (eq-eqb (bit x + 2 * a) (bit y + 2 * b) e)
  | inr n ↦
      false_from_ne_true (beq x y && a == b) (λ t. n (both x y t))
      ∙ sym (false_from_ne_true (bit x + 2 * a == bit y + 2 * b) (λ t. n (eqb-true (bit x + 2 * a) (bit y + 2 * b) t)))
]
  where
    both : (x y : Bool) → (beq x y && a == b) ≡ true → bit x + 2 * a ≡ bit y + 2 * b
    both true true t = ap (λ k. 1 + 2 * k) (eqb-true a b t)
    both true false t = absurd cc
    both false true t = absurd cc
    both false false t = ap (λ k. 0 + 2 * k) (eqb-true a b t)

-- less by the higher bits, or by the lowest where these are equal
pub less-bits : (x y below : Bool) (a b : ℕ) → (nat_lt a b || a == b && (if not (beq x y) then y else below)) ≡ (nat_lt (bit x + 2 * a) (bit y + 2 * b) || (bit x + 2 * a == bit y + 2 * b) && below)
less-bits x y below a b = elim (cases_lt a b) [
  | inl l ↦
      let low = bit-small x in
      ap (λ t. t || a == b && (if not (beq x y) then y else below)) (lt-ltb a b l)
      ∙ sym (ap (λ t. t || (bit x + 2 * a == bit y + 2 * b) && below) (lt-ltb (bit x + 2 * a) (bit y + 2 * b) (omega (arith, l, low))))
  | inr g ↦ elim (cases_eq a b) [
    | inl e ↦
        ap (λ t. t || a == b && (if not (beq x y) then y else below)) (le-ltb a b g)
        ∙ ap (λ t. t && (if not (beq x y) then y else below)) (eq-eqb a b e)
        ∙ lowest x y
        ∙ ap (λ k. nat_lt (bit x + 2 * a) (bit y + 2 * k) || (bit x + 2 * a == bit y + 2 * k) && below) e
    | inr n ↦
        let low = bit-small y in
        let off : (bit x + 2 * a == bit y + 2 * b) ≡ false = false_from_ne_true (bit x + 2 * a == bit y + 2 * b) (λ t. n (same-bit x y a b (eqb-true (bit x + 2 * a) (bit y + 2 * b) t)).1) in
        let more : b < a = (let q : (a ≡ b → ⊥) = n in above q g) in
        ap (λ t. t || a == b && (if not (beq x y) then y else below)) (le-ltb a b g)
        ∙ ap (λ t. t && (if not (beq x y) then y else below)) (false_from_ne_true (a == b) (λ t. n (eqb-true a b t)))
        ∙ sym (ap (λ t. t || (bit x + 2 * a == bit y + 2 * b) && below) (le-ltb (bit x + 2 * a) (bit y + 2 * b) (omega (arith, more, low))) ∙ ap (λ t. t && below) off)
  ]
]
  where
    above : (a ≡ b → ⊥) → b ≤ a → b < a
    above n g = elim (cases_lt b a) [ inl l ↦ l | inr l ↦ absurd (n (omega (arith, l, g))) ]

    lowest : (x y : Bool) → (if not (beq x y) then y else below) ≡ (nat_lt (bit x + 2 * a) (bit y + 2 * a) || (bit x + 2 * a == bit y + 2 * a) && below)
    lowest true true = sym (ap (λ t. t || (1 + 2 * a == 1 + 2 * a) && below) (le-ltb (1 + 2 * a) (1 + 2 * a) (omega arith)) ∙ ap (λ t. t && below) (eq-eqb (1 + 2 * a) (1 + 2 * a) refl))
    lowest true false = sym (ap (λ t. t || (1 + 2 * a == 0 + 2 * a) && below) (le-ltb (1 + 2 * a) (0 + 2 * a) (omega arith)) ∙ ap (λ t. t && below) (false_from_ne_true (1 + 2 * a == 0 + 2 * a) (λ t. (let e = eqb-true (1 + 2 * a) (0 + 2 * a) t in absurd (omega arith)))))
    lowest false true = sym (ap (λ t. t || (0 + 2 * a == 1 + 2 * a) && below) (lt-ltb (0 + 2 * a) (1 + 2 * a) (omega arith)))
    lowest false false = sym (ap (λ t. t || (0 + 2 * a == 0 + 2 * a) && below) (le-ltb (0 + 2 * a) (0 + 2 * a) (omega arith)) ∙ ap (λ t. t && below) (eq-eqb (0 + 2 * a) (0 + 2 * a) refl))

-- what is left of a sum
pub sum-mod : (r q n k : ℕ) → r < k → r + k * q ≡ n → r ≡ n % k
sum-mod r q n k l e = sym (ap (λ m. m % k) (sym e) ∙ add-mul-mod_self_left r k q ∙ mod-eq_of_lt l)
