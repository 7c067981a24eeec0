-- The number that is written after a letter.
use Rattle.std.specs.Prelude.{◌≡◌, ℕ, ◌+◌, ◌*◌, ◌/◌, ◌%◌, ◌^◌, ◌<◌, ◌≤◌, Bool, true, false, List, [], ◌∷◌, ◌++◌, Some, None, option_and_then, decimal, refl}
use Rattle.std.proofs.Common.{ap, ◌∙◌, arith}
use Rattle.std.proofs.lemmas.Bool.Decides.{nat_tests}
use Rattle.std.proofs.lemmas.Fmt.{decimal_by_steps_wide}
use Rattle.cocoon_num.specs.Tokens.{dec_digit, decimal_value, digits_after}
use Rattle.p4_texts.specs.Meant.{number_in}

abbrev is_some_byte : List ℕ → Bool
is_some_byte [] = false
is_some_byte (b ∷ bs) = true

-- digits that stand for n
record Digits (n : ℕ) (ds : List ℕ) : Type 0 where
  some : is_some_byte ds ≡ true
  value : digits_after 10 dec_digit 0 ds ≡ Some n

one_digit : (v m : ℕ) → m < 10 → digits_after 10 dec_digit v ((48 + m) ∷ []) ≡ Some (v * 10 + m)
one_digit v m h = grind (arith, nat_tests)

more_digits : (ds : List ℕ) (v b : ℕ) → digits_after 10 dec_digit v (ds ++ b ∷ []) ≡ option_and_then (λ w. digits_after 10 dec_digit w (b ∷ [])) (digits_after 10 dec_digit v ds)
more_digits [] v b = refl
more_digits (d ∷ ds) v b = elim (dec_digit d) as (λ o. option_and_then (λ x. digits_after 10 dec_digit (v * 10 + x) (ds ++ b ∷ [])) o ≡ option_and_then (λ w. digits_after 10 dec_digit w (b ∷ [])) (option_and_then (λ x. digits_after 10 dec_digit (v * 10 + x) ds) o)) [
  | None ↦ refl
  | Some x ↦ more_digits ds (v * 10 + x) b
]

still_some : (ds es : List ℕ) → is_some_byte ds ≡ true → is_some_byte (ds ++ es) ≡ true
still_some [] es h = absurd cc
still_some (d ∷ ds) es h = refl

one : (n : ℕ) → n < 10 → Digits n ((48 + n) ∷ [])
one n h = record { some = refl; value = one_digit 0 n h ∙ ap (λ m. Some m) (omega arith) }

more : (n : ℕ) (ds : List ℕ) → 10 ≤ n → Digits (n / 10) ds → Digits n (ds ++ ((48 + n % 10) ∷ []))
more n ds h d =
    let small : n % 10 < 10 = omega arith in
    let sum : n / 10 * 10 + n % 10 ≡ n = omega arith in
    record {
      some = still_some ds _ d.some;
      value = more_digits ds 0 (48 + n % 10) ∙ ap (λ o. option_and_then (λ w. digits_after 10 dec_digit w ((48 + n % 10) ∷ [])) o) d.value ∙ one_digit (n / 10) (n % 10) small ∙ ap (λ m. Some m) sum;
    }

value_of : (n : ℕ) (ds : List ℕ) → Digits n ds → decimal_value ds ≡ Some n
value_of n [] d = absurd (let f = d.some in cc)
value_of n (b ∷ ds) d = d.value

pub number_after : (letter n : ℕ) → n < 2 ^ 32 → number_in (letter ∷ decimal n) ≡ n
number_after letter n h =
    let wide : n < 10 ^ 64 = omega (arith, h) in
    ap (λ o. elim o as (λ _. ℕ) [ Some m ↦ m | None ↦ 0 ]) (value_of n (decimal n) (decimal_by_steps_wide Digits one more n wide))
