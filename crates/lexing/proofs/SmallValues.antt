-- Values that are held where they have 128 bits, and literals of at most so many.
use Rattle.std.specs.Prelude.{◌≡◌, ℕ, suc, ◌+◌, ◌*◌, ◌^◌, ◌<◌, ◌≤◌, ◌==◌, ◌&&◌, nat_le, nat_lt, ◌-◌, ◌/◌, Bool, true, false, not, List, [], ◌∷◌, length, take, drop, Option, Some, None, option_and_then, refl}
use Rattle.std.proofs.Common.{ap, sym, ◌∙◌, arith, inl, inr}
use Rattle.std.proofs.Math.Nat.{pow-le-pow_right}
use Rattle.std.proofs.lemmas.Bool.{cases_lt}
use Rattle.std.proofs.lemmas.List.{drop_all}
use Rattle.std.proofs.lemmas.Bool.Decides.{nat_tests}
use Rattle.std.specs.Option.{SomeIff}
use Rattle.cocoon_num.proofs.Widths.{mask_is}
use Rattle.cocoon_num.specs.Tokens as tokens
use Rattle.lexing.specs.Numbers.{base_of, digit_of, literal_read, small, value_of}
use Rattle.lexing.specs.declared.numbers.Radix.{Radix}
use Rattle.lexing.specs.declared.numbers.Radix.TheVariants.{Decimal, Hexadecimal}
use Rattle.lexing.proofs.Runs.{take_run}

-- what digits give after a value, where it is small
abbrev pub Goes : Radix → ℕ → List ℕ → Option ℕ
Goes radix v bs = option_and_then small (tokens.digits_after (base_of radix) (digit_of radix) v bs)

-- a base is 1 or more
some_base : (radix : Radix) → 1 ≤ base_of radix
some_base Decimal = omega arith
some_base Hexadecimal = omega arith

-- a further digit makes no value smaller
grows : (base v d m : ℕ) → 1 ≤ base → m ≤ v → m ≤ v * base + d
grows base v d m h e = grind arith

-- what is large is not kept
pub large_is_none : (v : ℕ) → 2 ^ 128 ≤ v → small v ≡ None
large_is_none v h = let e : nat_lt v (2 ^ 128) ≡ false = grind (arith, nat_tests) in rw e refl

-- what is below is
pub small_is_kept : (v : ℕ) → v < 2 ^ 128 → small v ≡ Some v
small_is_kept v h = let e : nat_lt v (2 ^ 128) ≡ true = grind (arith, nat_tests) in rw e refl

-- a large value stays large
pub stays_large : (radix : Radix) (v : ℕ) (bs : List ℕ) → 2 ^ 128 ≤ v → Goes radix v bs ≡ None
stays_large radix v [] h = large_is_none v h
stays_large radix v (b ∷ bs) h = elim (digit_of radix b) as (λ o. option_and_then small (option_and_then (λ d. tokens.digits_after (base_of radix) (digit_of radix) (v * base_of radix + d) bs) o) ≡ None) [
  | None ↦ refl
  | Some d ↦ stays_large radix (v * base_of radix + d) bs (grows (base_of radix) v d (2 ^ 128) (some_base radix) h)
]

-- one digit more
pub next_digit : (radix : Radix) (v b d : ℕ) (bs : List ℕ) → digit_of radix b ≡ Some d → Goes radix v (b ∷ bs) ≡ Goes radix (v * base_of radix + d) bs
next_digit radix v b d bs e = rw e refl

-- a byte that is no digit
pub no_digit : (radix : Radix) (v b : ℕ) (bs : List ℕ) → digit_of radix b ≡ None → Goes radix v (b ∷ bs) ≡ None
no_digit radix v b bs e = rw e refl

-- a value that is not small is large
pub is_large : (v : ℕ) → small v ≡ None → 2 ^ 128 ≤ v
is_large v e = elim (cases_lt v (2 ^ 128)) [
  | inl h ↦ let f : small v ≡ Some v = small_is_kept v h in absurd cc
  | inr h ↦ h
]

-- a value that is kept is that value
pub is_small : (v w : ℕ) → small v ≡ Some w → (v ≡ w) × (v < 2 ^ 128)
is_small v w e = elim (cases_lt v (2 ^ 128)) [
  | inl h ↦ let f : small v ≡ Some v = small_is_kept v h in (cc, h)
  | inr h ↦ let f : small v ≡ None = large_is_none v h in absurd cc
]

pub was_some : (o : Option ℕ) (v : ℕ) → option_and_then small o ≡ Some v → o ≡ Some v
was_some None v e = absurd cc
was_some (Some n) v e = let p = is_small n v e in ap (λ m. Some m) p.0

-- what is some value below the bound, or none, is that value where it is small
pub kept : (r : Option ℕ) (v : ℕ) → SomeIff r (v < 2 ^ 128) v → r ≡ small v
kept None v h = elim (cases_lt v (2 ^ 128)) [
  | inl l ↦ absurd (h l)
  | inr l ↦ sym (large_is_none v l)
]
kept (Some x) v h = ap (λ m. Some m) h.1 ∙ sym (small_is_kept v h.0)

-- a value whose product is large is large with the digit
pub large_product : (v base d : ℕ) → 2 ^ 128 ≤ v * base → small (v * base + d) ≡ None
large_product v base d h = large_is_none (v * base + d) (omega arith)

-- ---- tests

-- no test holds whose last part fails
off : (p q r : Bool) → r ≡ false → (p && q && r) ≡ false
off true true r e = e
off true false r e = refl
off false q r e = refl

-- no test holds whose middle part fails
wide : (p q r : Bool) → q ≡ false → (p && q && r) ≡ false
wide true q r e = rw e refl
wide false q r e = refl

-- no test holds whose first part fails
narrow : (p q r : Bool) → p ≡ false → (p && q && r) ≡ false
narrow p q r e = rw e refl

-- what fails its test is not kept
unkept : (p : Bool) (k : tokens.Kind) → p ≡ false → tokens.kept_if p k ≡ None
unkept p k e = rw e refl

-- the largest value of a width
largest : (w : ℕ) → w ≤ 128 → (2 ^ 128 - 1) / 2 ^ (128 - w) + 1 ≡ 2 ^ w
largest w h = mask_is w h

pub within_width : (w v : ℕ) → w ≤ 128 → v ≤ (2 ^ 128 - 1) / 2 ^ (128 - w) → v < 2 ^ w
within_width w v h l = omega (arith, largest w h, l)

-- ---- literals of at most so many bits

module _ (widest : ℕ) (most : widest ≤ 128) where
  -- this width and this value make a literal
  abbrev literal_fits : ℕ → ℕ → Bool
  literal_fits w v = nat_le 1 w && nat_le w widest && nat_lt v (2 ^ w)

  -- a width or a value out of range makes no literal
  pub no_literal : (w v : ℕ) → (nat_le 1 w && nat_le w widest && nat_lt v (2 ^ w)) ≡ false → None ≡ tokens.literal_of widest (Some w) (Some v)
  no_literal w v h = sym (unkept (literal_fits w v) (tokens.literal w v) h)

  -- no literal is wider
  too_wide : (w v : ℕ) → widest < w → literal_fits w v ≡ false
  too_wide w v h = wide (nat_le 1 w) (nat_le w widest) (nat_lt v (2 ^ w)) (grind (arith, nat_tests))

  -- no literal is 2^128 or more
  too_large : (w v : ℕ) → 2 ^ 128 ≤ v → literal_fits w v ≡ false
  too_large w v k = elim (cases_lt widest w) [
    | inl h ↦ too_wide w v h
    | inr h ↦ (let few : w ≤ 128 = omega (arith, h, most) in
        let power : 2 ^ w ≤ 2 ^ 128 = pow-le-pow_right (omega arith) few in
        off (nat_le 1 w) (nat_le w widest) (nat_lt v (2 ^ w)) (grind (arith, nat_tests)))
  ]

  pub too_narrow : (w v : ℕ) → w < 1 → None ≡ tokens.literal_of widest (Some w) (Some v)
  too_narrow w v h = no_literal w v (narrow (nat_le 1 w) (nat_le w widest) (nat_lt v (2 ^ w)) (grind (arith, nat_tests)))

  pub beyond : (w v : ℕ) → widest < w → None ≡ tokens.literal_of widest (Some w) (Some v)
  beyond w v h = no_literal w v (too_wide w v h)

  pub over_width : (w v : ℕ) → w ≤ 128 → (2 ^ 128 - 1) / 2 ^ (128 - w) < v → None ≡ tokens.literal_of widest (Some w) (Some v)
  over_width w v h l =
      let far : 2 ^ w ≤ v = omega (arith, largest w h, l) in
      no_literal w v (off (nat_le 1 w) (nat_le w widest) (nat_lt v (2 ^ w)) (grind (arith, nat_tests)))

  -- without a value there is no literal
  pub no_value : (w : Option ℕ) → tokens.literal_of widest w None ≡ None
  no_value None = refl
  no_value (Some w) = refl

  -- the bound on the value changes no literal
  small_value : (w v : ℕ) → tokens.literal_of widest (Some w) (Some v) ≡ tokens.literal_of widest (Some w) (small v)
  small_value w v = elim (cases_lt v (2 ^ 128)) [
    | inl h ↦ ap (λ o. tokens.literal_of widest (Some w) o) (sym (small_is_kept v h))
    | inr h ↦ sym (no_literal w v (too_large w v h)) ∙ ap (λ o. tokens.literal_of widest (Some w) o) (sym (large_is_none v h))
  ]

  -- nor that on the width
  small_width : (w : ℕ) (v : Option ℕ) → tokens.literal_of widest (Some w) v ≡ tokens.literal_of widest (small w) v
  small_width w None = sym (no_value (small w))
  small_width w (Some v) = elim (cases_lt w (2 ^ 128)) [
    | inl h ↦ ap (λ o. tokens.literal_of widest o (Some v)) (sym (small_is_kept w h))
    | inr h ↦ (let far : widest < w = omega (arith, h, most) in sym (beyond w v far) ∙ ap (λ o. tokens.literal_of widest o (Some v)) (sym (large_is_none w h)))
  ]

  -- nor where a part is not there
  small_literal : (w v : Option ℕ) → tokens.literal_of widest w v ≡ tokens.literal_of widest (option_and_then small w) (option_and_then small v)
  small_literal None v = refl
  small_literal (Some w) None = sym (no_value (small w))
  small_literal (Some w) (Some v) = small_value w v ∙ small_width w (small v)

  -- a literal is that of its width and its value, each where it is small
  pub literal_is : (run : List ℕ) (n : ℕ) → n ≡ length (tokens.before_w run) → literal_read widest run ≡ tokens.literal_of widest (value_of Decimal (take n run)) (option_and_then small (tokens.literal_value (drop (n + 1) run)))
  literal_is run n e =
      let before : tokens.before_w run ≡ take n run = sym (take_run (λ b. not (b == 119)) run) ∙ ap (λ k. take k run) (sym e) in
      let size : suc (length (tokens.before_w run)) ≡ n + 1 = omega (arith, e) in
      let back : tokens.after_w run ≡ drop (n + 1) run = ap (λ k. drop k run) size in
      ap (λ w. tokens.literal_of widest (tokens.decimal_value w) (tokens.literal_value (tokens.after_w run))) before
      ∙ ap (λ r. tokens.literal_of widest (tokens.decimal_value (take n run)) (tokens.literal_value r)) back
      ∙ small_literal (tokens.decimal_value (take n run)) (tokens.literal_value (drop (n + 1) run))

  -- with no letter `w` there is no literal
  pub no_w : (run : List ℕ) (n : ℕ) → n ≡ length (tokens.before_w run) → n ≡ length run → literal_read widest run ≡ None
  no_w run n e f =
      let none : drop (n + 1) run ≡ [] = drop_all (n + 1) run (omega arith) in
      literal_is run n e ∙ ap (λ r. tokens.literal_of widest (value_of Decimal (take n run)) (option_and_then small (tokens.literal_value r))) none ∙ no_value (value_of Decimal (take n run))

-- ---- digits alone

-- a decimal digit is not `w`
digit_stays : (b : ℕ) (t : Bool) → tokens.is_digit b ≡ t → t ≡ true → not (b == 119) ≡ true
digit_stays b true e f = grind (arith, nat_tests)
digit_stays b false e f = absurd cc

-- one digit more has no letter `w`
one_more : (v n b : ℕ) (bs : List ℕ) (t : Bool) → tokens.is_digit b ≡ t → tokens.digits_after 10 tokens.dec_digit v (b ∷ bs) ≡ Some n
    → (tokens.digits_after 10 tokens.dec_digit (v * 10 + (b - 48)) bs ≡ Some n → tokens.before_w bs ≡ bs) → tokens.before_w (b ∷ bs) ≡ b ∷ bs
one_more v n b bs true t e h =
    let go : tokens.digits_after 10 tokens.dec_digit (v * 10 + (b - 48)) bs ≡ Some n = rw t at e in
    rw (digit_stays b true t refl) (ap (λ r. b ∷ r) (h go))
one_more v n b bs false t e h = let go : None ≡ Some n = rw t at e in absurd cc

-- digits have no letter `w` among them
no_w_among : (v n : ℕ) (bs : List ℕ) → tokens.digits_after 10 tokens.dec_digit v bs ≡ Some n → tokens.before_w bs ≡ bs
no_w_among v n [] e = refl
no_w_among v n (b ∷ bs) e = one_more v n b bs (tokens.is_digit b) refl e (no_w_among (v * 10 + (b - 48)) n bs)

module _ (widest : ℕ) (most : widest ≤ 128) where
  digits_have_no_w : (run : List ℕ) (n : ℕ) → tokens.decimal_value run ≡ Some n → literal_read widest run ≡ None
  digits_have_no_w [] n e = absurd cc
  digits_have_no_w (b ∷ bs) n e = let all : tokens.before_w (b ∷ bs) ≡ b ∷ bs = no_w_among 0 n (b ∷ bs) e in no_w widest most (b ∷ bs) (length (b ∷ bs)) (ap length (sym all)) refl

  -- what a run of digits is, by its value
  abbrev by_value : List ℕ → Option ℕ → Option tokens.Kind
  by_value run o = elim o [ Some n ↦ tokens.kept_if (nat_lt n (2 ^ 32)) (tokens.plain n) | None ↦ literal_read widest run ]

  not_small : (run : List ℕ) (o : Option ℕ) → tokens.decimal_value run ≡ o → option_and_then small o ≡ None → literal_read widest run ≡ by_value run o
  not_small run None d e = refl
  not_small run (Some n) d e =
      let far : 2 ^ 128 ≤ n = is_large n e in
      let past : nat_lt n (2 ^ 32) ≡ false = grind (arith, nat_tests) in
      digits_have_no_w run n d ∙ rw past refl

  -- a run that is no small number is a literal, or nothing
  pub no_plain : (run : List ℕ) → value_of Decimal run ≡ None → literal_read widest run ≡ tokens.number_kind widest run
  no_plain run e = not_small run (tokens.decimal_value run) refl e

  -- a run that is a small number is plain, where it is below 2^32
  pub plain_is : (run : List ℕ) (v : ℕ) → value_of Decimal run ≡ Some v → tokens.kept_if (nat_lt v (2 ^ 32)) (tokens.plain v) ≡ tokens.number_kind widest run
  plain_is run v e = ap (by_value run) (sym (was_some (tokens.decimal_value run) v e))
