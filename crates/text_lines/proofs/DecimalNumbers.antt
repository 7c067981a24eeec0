-- Numbers in decimal digits read back.
use Rattle.std.proofs.Common.{◌≡◌, ℕ, suc, ◌+◌, ◌*◌, ◌/◌, ◌%◌, ◌^◌, ◌≤◌, ◌<◌, List, [], ◌∷◌, ◌++◌, Bool, true, false, not, ◌&&◌, Option, Some, None, refl, ap, ap₂, subst, ◌∙◌, arith, length, drop}
use Rattle.std.specs.Prelude.{◌==◌, codes, decimal, nat_le, nat_lt, option_and_then}
use Rattle.std.proofs.lemmas.Bool.{cond-true, cond-false, and_parts, and_right, lt-ltb}
use Rattle.std.proofs.lemmas.Bool.Decides.{nat_tests}
use Rattle.std.proofs.lemmas.List.{append-nil}
use Rattle.std.proofs.Math.Nat.{pow-le-pow_right}
use Rattle.std.proofs.lemmas.Fmt.{decimal_by_steps_wide}
use Rattle.cocoon_num.specs.Tokens.{Kind, plain, literal, is_digit, is_run_byte, begins, dec_digit, digits_after, decimal_value, literal_value, literal_of, kept_if, before_w, after_w, number_kind}
use Rattle.text_lines.proofs.Seams.{Seams, leading_cons, Spells, number_spells, is_clear, all_word_bytes}

abbrev all_digits : List ℕ → Bool
all_digits [] = true
all_digits (b ∷ bs) = is_digit b && all_digits bs

abbrev starts_digit : List ℕ → Bool
starts_digit [] = false
starts_digit (b ∷ bs) = is_digit b

-- digits that stand for n
record Digits (n : ℕ) (ds : List ℕ) : Type 0 where
  first : starts_digit ds ≡ true
  all : all_digits ds ≡ true
  value : digits_after 10 dec_digit 0 ds ≡ Some n

one_digit : (v m : ℕ) → m < 10 → digits_after 10 dec_digit v ((48 + m) ∷ []) ≡ Some (v * 10 + m)
one_digit v m h = grind (arith, nat_tests)

is_one_digit : (m : ℕ) → m < 10 → is_digit (48 + m) ≡ true
is_one_digit m h = grind (arith, nat_tests)

more_digits : (ds : List ℕ) (v b : ℕ) → digits_after 10 dec_digit v (ds ++ b ∷ []) ≡ option_and_then (λ w. digits_after 10 dec_digit w (b ∷ [])) (digits_after 10 dec_digit v ds)
more_digits [] v b = refl
more_digits (d ∷ ds) v b = elim (dec_digit d) as (λ o. option_and_then (λ x. digits_after 10 dec_digit (v * 10 + x) (ds ++ b ∷ [])) o ≡ option_and_then (λ w. digits_after 10 dec_digit w (b ∷ [])) (option_and_then (λ x. digits_after 10 dec_digit (v * 10 + x) ds) o)) [
  | None ↦ refl
  | Some x ↦ more_digits ds (v * 10 + x) b
]

all_more : (ds : List ℕ) (b : ℕ) → all_digits ds ≡ true → is_digit b ≡ true → all_digits (ds ++ b ∷ []) ≡ true
all_more [] b h g = ap (λ v. v && true) g
all_more (d ∷ ds) b h g = let hs = and_parts (is_digit d) (all_digits ds) h in ap₂ (λ u v. u && v) hs.0 (all_more ds b hs.1 g)

first_more : (ds es : List ℕ) → starts_digit ds ≡ true → starts_digit (ds ++ es) ≡ true
first_more [] es h = cc
first_more (d ∷ ds) es h = h

one : (n : ℕ) → n < 10 → Digits n ((48 + n) ∷ [])
one n h = record { first = is_one_digit n h; all = ap (λ v. v && true) (is_one_digit n h); value = one_digit 0 n h ∙ ap (λ m. Some m) (omega arith) }

more : (n : ℕ) (ds : List ℕ) → 10 ≤ n → Digits (n / 10) ds → Digits n (ds ++ ((48 + n % 10) ∷ []))
more n ds h d =
    let small : n % 10 < 10 = omega arith in
    let sum : n / 10 * 10 + n % 10 ≡ n = omega arith in
    record {
      first = first_more ds _ d.first;
      all = all_more ds (48 + n % 10) d.all (is_one_digit (n % 10) small);
      value = more_digits ds 0 (48 + n % 10) ∙ ap (λ o. option_and_then (λ w. digits_after 10 dec_digit w ((48 + n % 10) ∷ [])) o) d.value ∙ one_digit (n / 10) (n % 10) small ∙ ap (λ m. Some m) sum;
    }

decimal_digits : (n : ℕ) → n < 10 ^ 64 → Digits n (decimal n)
decimal_digits n h = decimal_by_steps_wide Digits one more n h

value_of : (n : ℕ) (ds : List ℕ) → Digits n ds → decimal_value ds ≡ Some n
value_of n [] d = absurd (let f = d.first in cc)
value_of n (b ∷ ds) d = d.value

digit_in_word : (b : ℕ) → is_digit b ≡ true → is_run_byte b ≡ true
digit_in_word b h = grind (arith, nat_tests)

word_digits : (ds es : List ℕ) → all_digits ds ≡ true → all_word_bytes es ≡ true → all_word_bytes (ds ++ es) ≡ true
word_digits [] es h g = g
word_digits (b ∷ ds) es h g = let hs = and_parts (is_digit b) (all_digits ds) h in ap₂ (λ u v. u && v) (digit_in_word b hs.0) (word_digits ds es hs.1 g)

no_digit_w : (b : ℕ) → is_digit b ≡ true → not (b == 119) ≡ true
no_digit_w b h = grind (arith, nat_tests)

before_is : (ds es : List ℕ) → all_digits ds ≡ true → before_w (ds ++ 119 ∷ es) ≡ ds
before_is [] es h = leading_cons (λ b. not (b == 119)) 119 es
before_is (b ∷ ds) es h =
    let hs = and_parts (is_digit b) (all_digits ds) h in
    leading_cons (λ b. not (b == 119)) b (ds ++ 119 ∷ es) ∙ cond-true (not (b == 119)) _ _ (no_digit_w b hs.0) ∙ ap (λ xs. b ∷ xs) (before_is ds es hs.1)

dropped : (ds es : List ℕ) → drop (suc (length ds)) (ds ++ 119 ∷ es) ≡ es
dropped [] es = refl
dropped (d ∷ ds) es = dropped ds es

after_is : (ds es : List ℕ) → all_digits ds ≡ true → after_w (ds ++ 119 ∷ es) ≡ es
after_is ds es h = ap (λ xs. drop (suc (length xs)) (ds ++ 119 ∷ es)) (before_is ds es h) ∙ dropped ds es

no_number_after : (ds es : List ℕ) (v : ℕ) → digits_after 10 dec_digit v (ds ++ 119 ∷ es) ≡ None
no_number_after [] es v = refl
no_number_after (d ∷ ds) es v = elim (dec_digit d) as (λ o. option_and_then (λ x. digits_after 10 dec_digit (v * 10 + x) (ds ++ 119 ∷ es)) o ≡ None) [
  | None ↦ refl
  | Some x ↦ no_number_after ds es (v * 10 + x)
]

no_number : (ds es : List ℕ) → decimal_value (ds ++ 119 ∷ es) ≡ None
no_number [] es = refl
no_number (d ∷ ds) es = no_number_after (d ∷ ds) es 0

no_x : (d : ℕ) → is_digit d ≡ true → (120 == d) ≡ false
no_x d h = grind (arith, nat_tests)

no_hex : (ds : List ℕ) → all_digits ds ≡ true → begins (codes "0x") ds ≡ false
no_hex [] h = refl
no_hex (c ∷ []) h = grind (arith, nat_tests)
no_hex (c ∷ d ∷ ds) h =
    let hs = and_parts (is_digit c) (is_digit d && all_digits ds) h in
    let ks = and_parts (is_digit d) (all_digits ds) hs.1 in
    ap (λ v. (48 == c) && (v && true)) (no_x d ks.0) ∙ and_right (48 == c) false refl

literal_value_is : (n : ℕ) (ds : List ℕ) → Digits n ds → literal_value ds ≡ Some n
literal_value_is n ds d = cond-false (begins (codes "0x") ds) _ _ (no_hex ds d.all) ∙ value_of n ds d

plain_kind : (v n : ℕ) (ds : List ℕ) → Digits n ds → n < 2 ^ 32 → number_kind v ds ≡ Some (plain n)
plain_kind v n ds d h =
    ap (λ o. elim o as (λ _. Option Kind) [ Some m ↦ kept_if (nat_lt m (2 ^ 32)) (plain m) | None ↦ literal_of v (decimal_value (before_w ds)) (literal_value (after_w ds)) ]) (value_of n ds d)
    ∙ ap (λ t. kept_if t (plain n)) (lt-ltb n (2 ^ 32) h)

le-leb' : (a b : ℕ) → a ≤ b → nat_le a b ≡ true
le-leb' a b h = grind (arith, nat_tests)

literal_kind : (v w n : ℕ) (ds es : List ℕ) → Digits w ds → Digits n es → 1 ≤ w → w ≤ v → n < 2 ^ w → number_kind v (ds ++ 119 ∷ es) ≡ Some (literal w n)
literal_kind v w n ds es d e low high fits =
    ap (λ o. elim o as (λ _. Option Kind) [ Some m ↦ kept_if (nat_lt m (2 ^ 32)) (plain m) | None ↦ literal_of v (decimal_value (before_w (ds ++ 119 ∷ es))) (literal_value (after_w (ds ++ 119 ∷ es))) ]) (no_number ds es)
    ∙ ap₂ (λ b a. literal_of v (decimal_value b) (literal_value a)) (before_is ds es d.all) (after_is ds es d.all)
    ∙ ap₂ (λ b a. literal_of v b a) (value_of w ds d) (literal_value_is n es e)
    ∙ ap (λ t. kept_if t (literal w n)) (ap₂ (λ a b. a && b) (ap₂ (λ a b. a && b) (le-leb' 1 w low) (le-leb' w v high)) (lt-ltb n (2 ^ w) fits))

-- the first byte of digits, and the rest
run_of_digits : (x : Seams) (n : ℕ) (ds es : List ℕ) (k : Kind) → Digits n ds → all_word_bytes es ≡ true → number_kind x.lexicon.widest (ds ++ es) ≡ Some k → Spells x (ds ++ es) (k ∷ [])
run_of_digits x n [] es k d h e = absurd (let f = d.first in cc)
run_of_digits x n (b ∷ ds) es k d h e = number_spells x b (ds ++ es) k d.first (word_digits (b ∷ ds) es d.all h) e

pub plain_spells : (x : Seams) (n : ℕ) → n < 2 ^ 32 → Spells x (decimal n) (plain n ∷ [])
plain_spells x n h =
    let d = decimal_digits n (omega arith) in
    let same : decimal n ++ [] ≡ decimal n = append-nil (decimal n) in
    subst (λ s. Spells x s (plain n ∷ [])) same (run_of_digits x n (decimal n) [] (plain n) d refl (ap (number_kind x.lexicon.widest) same ∙ plain_kind x.lexicon.widest n (decimal n) d h))

below_pow : (w : ℕ) → w ≤ 128 → 2 ^ w ≤ 2 ^ 128
below_pow w h = pow-le-pow_right {n = 2} (omega arith) h

pub literal_spells : (x : Seams) (w n : ℕ) → 1 ≤ w → w ≤ x.lexicon.widest → w ≤ 128 → n < 2 ^ w → Spells x (decimal w ++ (119 ∷ decimal n)) (literal w n ∷ [])
literal_spells x w n low high bound fits =
    let d = decimal_digits w (omega arith) in
    let e = decimal_digits n (omega (arith, below_pow w bound)) in
    run_of_digits x w (decimal w) (119 ∷ decimal n) (literal w n) d (subst (λ s. all_word_bytes s ≡ true) (append-nil (decimal n)) (word_digits (decimal n) [] e.all refl)) (literal_kind x.lexicon.widest w n (decimal w) (decimal n) d e low high fits)

digits_clear : (x : Seams) (n : ℕ) (ds es : List ℕ) → Digits n ds → is_clear x (ds ++ es) ≡ true
digits_clear x n [] es d = absurd (let f = d.first in cc)
digits_clear x n (b ∷ ds) es d = x.word_parts b (digit_in_word b d.first)

pub decimal_clear : (x : Seams) (n : ℕ) (es : List ℕ) → n < 2 ^ 128 → is_clear x (decimal n ++ es) ≡ true
decimal_clear x n es h = digits_clear x n (decimal n) es (decimal_digits n (omega arith))

pub decimal_word : (n : ℕ) → n < 2 ^ 128 → all_word_bytes (decimal n) ≡ true
decimal_word n h = subst (λ s. all_word_bytes s ≡ true) (append-nil (decimal n)) (word_digits (decimal n) [] (decimal_digits n (omega arith)).all refl)
