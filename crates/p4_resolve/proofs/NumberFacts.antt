-- The number that is written after a letter.
use Rattle.std.proofs.Common.{◌≡◌, ℕ, zero, suc, ◌+◌, ◌-◌, ◌*◌, ◌/◌, ◌%◌, ◌^◌, ◌<◌, ◌≤◌, ◌==◌, ◌&&◌, ◌||◌, Bool, true, false, not, List, [], ◌∷◌, ◌++◌, length, length-append, drop, get_or, Option, Some, None, refl, sym, ap, ap₂, subst, ◌∙◌, arith}
use Rattle.std.specs.Prelude.{decimal, if◌then◌else◌, nat_le, option_and_then}
use Rattle.std.specs.Fmt.{digit_glyph, digits, digits_onto}
use Rattle.std.proofs.lemmas.Bool.{and_parts, and_from}
use Rattle.std.proofs.lemmas.Bool.Decides.{nat_tests}
use Rattle.std.proofs.lemmas.List.{at_drop_more}
use Rattle.std.proofs.lemmas.Fmt.{decimal_by_steps_wide, decimal_digit, decimal_step_wide}
use Rattle.std.proofs.Math.Nat.{mul-le-mul_right, mul_assoc, one-le-pow, pow-le-pow_right, pow-suc, pow-succ'}
use Rattle.cocoon_num.specs.Lists.{each}
use Rattle.cocoon_num.specs.Names.{same_name}
use Rattle.cocoon_num.specs.Tokens.{dec_digit, digits_after, is_digit, kept_if}
use Rattle.p4_texts.specs.Meant.{number_in}
use Rattle.p4_resolve.specs.Numbered.{begins_with, is_canonical, is_small, small}
use Rattle.numbering.proofs.NameFacts.{same-refl, same-true}

abbrev value : ℕ → List ℕ → Option ℕ
value v ds = digits_after 10 dec_digit v ds

digit_is : (b : ℕ) → is_digit b ≡ true → dec_digit b ≡ Some (b - 48)
digit_is b h = rw h refl

more_digits : (ds : List ℕ) (v b : ℕ) → value v (ds ++ b ∷ []) ≡ option_and_then (λ w. value w (b ∷ [])) (value v ds)
more_digits [] v b = refl
more_digits (d ∷ ds) v b = elim (dec_digit d) as (λ o. option_and_then (λ x. value (v * 10 + x) (ds ++ b ∷ [])) o ≡ option_and_then (λ w. value w (b ∷ [])) (option_and_then (λ x. value (v * 10 + x) ds) o)) [
  | None ↦ refl
  | Some x ↦ more_digits ds (v * 10 + x) b
]

-- digits with their value, as `decimal` writes it
pub record Good (ds : List ℕ) (v : ℕ) : Type 0 where
  pub value_is : value 0 ds ≡ Some v
  pub text : decimal v ≡ ds
  pub below : v < 10 ^ length ds
  pub large : begins_with 48 ds ≡ false → 10 ^ (length ds - 1) ≤ v

one_good : (b : ℕ) → is_digit b ≡ true → Good (b ∷ []) (b - 48)
one_good b h =
    let low : 48 ≤ b = grind (arith, nat_tests) in
    let high : b ≤ 57 = grind (arith, nat_tests) in
    record {
      value_is = rw (digit_is b h) (ap (λ n. Some n) (omega arith));
      text = decimal_digit (b - 48) (omega (arith, high)) ∙ ap (λ n. n ∷ []) (omega (arith, low));
      below = omega (arith, high);
      large = λ e. grind (arith, nat_tests);
    }

begins_prefix : (x b : ℕ) (prefix : List ℕ) → 0 < length prefix → begins_with x (prefix ++ b ∷ []) ≡ begins_with x prefix
begins_prefix x b [] h = absurd (omega (arith, h))
begins_prefix x b (d ∷ prefix) h = refl

more_good : (prefix : List ℕ) (b w k : ℕ) → length prefix ≡ suc k → suc k < 64 → is_digit b ≡ true → begins_with 48 prefix ≡ false → Good prefix w → Good (prefix ++ b ∷ []) (w * 10 + (b - 48))
more_good prefix b w k n small h first g =
    let low : 48 ≤ b = grind (arith, nat_tests) in
    let high : b ≤ 57 = grind (arith, nat_tests) in
    let long : length (prefix ++ b ∷ []) ≡ suc k + 1 = length-append prefix (b ∷ []) ∙ ap (λ m. m + 1) n in
    let below : w < 10 ^ suc k = subst (λ m. w < 10 ^ m) n g.below in
    let large : 10 ^ (suc k - 1) ≤ w = subst (λ m. 10 ^ (m - 1) ≤ w) n (g.large first) in
    let bound : 10 ^ suc k ≤ 10 ^ 63 = pow-le-pow_right {n = 10} (let p : 0 < 10 = omega arith in p) {i = suc k} {j = 63} (omega (arith, small)) in
    let some : 1 ≤ 10 ^ k = one-le-pow k 10 (omega arith) in
    let same : suc k - 1 ≡ k = omega arith in
    let less : 10 ^ k ≤ w = subst (λ m. 10 ^ m ≤ w) same large in
    let next : 10 ^ suc k ≡ 10 ^ k * 10 = pow-suc 10 k in
    let last : 10 ^ suc (suc k) ≡ 10 ^ suc k * 10 = pow-suc 10 (suc k) in
    let two : suc k + 1 ≡ suc (suc k) = omega arith in
    let wide : w * 10 + (b - 48) < 10 ^ 64 = omega (arith, below, bound, high) in
    let ten : 10 ≤ w * 10 + (b - 48) = omega (arith, some, less) in
    let prefix_is : (w * 10 + (b - 48)) / 10 ≡ w = omega (arith, high) in
    let last_is : 48 + (w * 10 + (b - 48)) % 10 ≡ b = omega (arith, low, high) in
    record {
      value_is = more_digits prefix 0 b ∙ ap (λ o. option_and_then (λ w. value w (b ∷ [])) o) g.value_is ∙ rw (digit_is b h) refl;
      text = decimal_step_wide (w * 10 + (b - 48)) ten wide ∙ ap₂ (λ m n. decimal m ++ (n ∷ [])) prefix_is last_is ∙ ap (λ ds. ds ++ (b ∷ [])) g.text;
      below = subst (λ m. w * 10 + (b - 48) < 10 ^ m) (sym (long ∙ two)) (omega (arith, last, below, high));
      large = λ e. subst (λ m. 10 ^ m ≤ w * 10 + (b - 48)) (let m : suc k ≡ length (prefix ++ b ∷ []) - 1 = omega (arith, long) in m) (omega (arith, next, less));
    }

split : (d : ℕ) (ds : List ℕ) → (prefix : List ℕ) × (b : ℕ) × (d ∷ ds ≡ prefix ++ b ∷ [])
split d [] = ([], d, refl)
split d (e ∷ ds) = let r = split e ds in (d ∷ r.0, r.1, ap (λ xs. d ∷ xs) r.2)

each_last : (prefix : List ℕ) (b : ℕ) → each is_digit (prefix ++ b ∷ []) ≡ (each is_digit prefix && is_digit b)
each_last [] b = swap (is_digit b)
  where
    swap : (t : Bool) → (t && true) ≡ (true && t)
    swap true = refl
    swap false = refl
each_last (d ∷ prefix) b = ap (λ t. is_digit d && t) (each_last prefix b) ∙ regroup (is_digit d) (each is_digit prefix) (is_digit b)
  where
    regroup : (x y z : Bool) → (x && (y && z)) ≡ ((x && y) && z)
    regroup true y z = refl
    regroup false y z = refl

pub good_of : (k : ℕ) (ds : List ℕ) → length ds ≡ suc k → k < 64 → each is_digit ds ≡ true → (1 ≤ k → begins_with 48 ds ≡ false) → (v : ℕ) × Good ds v
good_of k [] n small h first = absurd (omega (arith, n))
good_of zero (b ∷ []) n small h first = (b - 48, one_good b (and_parts (is_digit b) true h).0)
good_of zero (b ∷ c ∷ ds) n small h first = absurd (omega (arith, n))
good_of (suc k) (d ∷ ds) n small h first =
    let r = split d ds in
    let long : length r.0 ≡ suc k = (let e : length (d ∷ ds) ≡ length r.0 + 1 = ap length r.2 ∙ length-append r.0 (r.1 ∷ []) in omega (arith, e, n)) in
    let digits_are = and_parts (each is_digit r.0) (is_digit r.1) (sym (each_last r.0 r.1) ∙ ap (each is_digit) (sym r.2) ∙ h) in
    let begins : begins_with 48 r.0 ≡ false = sym (begins_prefix 48 r.1 r.0 (omega (arith, long))) ∙ ap (begins_with 48) (sym r.2) ∙ first (omega arith) in
    let g = good_of k r.0 long (omega (arith, small)) digits_are.0 (λ _. begins) in
    (g.0 * 10 + (r.1 - 48), subst (λ xs. Good xs (g.0 * 10 + (r.1 - 48))) (sym r.2) (more_good r.0 r.1 g.0 k long (omega (arith, small)) digits_are.1 begins g.1))

-- ---- what `decimal` writes

pub record Canon (n : ℕ) (ds : List ℕ) : Type 0 where
  pub digits_are : each is_digit ds ≡ true
  pub some : 0 < length ds
  pub first : 1 ≤ n → begins_with 48 ds ≡ false
  pub single : n < 10 → length ds ≡ 1

canon_one : (n : ℕ) → n < 10 → Canon n ((48 + n) ∷ [])
canon_one n h = record {
  digits_are = and_from (is_digit (48 + n)) true (let e : is_digit (48 + n) ≡ true = grind (arith, nat_tests) in e) refl;
  some = omega arith;
  first = λ k. grind (arith, nat_tests);
  single = λ k. refl;
}

canon_more : (n : ℕ) (ds : List ℕ) → 10 ≤ n → Canon (n / 10) ds → Canon n (ds ++ ((48 + n % 10) ∷ []))
canon_more n ds h c =
    let low : n % 10 < 10 = omega arith in
    record {
      digits_are = each_last ds (48 + n % 10) ∙ and_from (each is_digit ds) (is_digit (48 + n % 10)) c.digits_are (let e : is_digit (48 + n % 10) ≡ true = grind (arith, nat_tests) in e);
      some = let e = length-append ds ((48 + n % 10) ∷ []) in omega (arith, e);
      first = λ k. begins_prefix 48 (48 + n % 10) ds c.some ∙ c.first (omega (arith, h));
      single = λ k. absurd (omega (arith, h, k));
    }

-- ---- how large a value is

digit_below : (b d : ℕ) → dec_digit b ≡ Some d → d < 10
digit_below b d h = by (is_digit b) refl h
  where
    by : (t : Bool) → is_digit b ≡ t → (if t then Some (b - 48) else None) ≡ Some d → d < 10
    by true e h = let s : b - 48 ≡ d = cc in let high : b ≤ 57 = grind (arith, nat_tests) in omega (arith, s, high)
    by false e h = absurd cc

value_below : (ds : List ℕ) (so v : ℕ) → value so ds ≡ Some v → v < (so + 1) * 10 ^ length ds
value_below [] so v h = let e : so ≡ v = cc in omega (arith, e)
value_below (b ∷ ds) so v h = by (λ d. value_below ds (so * 10 + d) v) (dec_digit b) refl h
  where
    by : ((d : ℕ) → value (so * 10 + d) ds ≡ Some v → v < (so * 10 + d + 1) * 10 ^ length ds) → (o : Option ℕ) → dec_digit b ≡ o → option_and_then (λ d. value (so * 10 + d) ds) o ≡ Some v → v < (so + 1) * 10 ^ length (b ∷ ds)
    by below None e h = absurd cc
    by below (Some d) e h =
        let small = digit_below b d e in
        let ih : v < (so * 10 + d + 1) * 10 ^ length ds = below d h in
        let more : so * 10 + d + 1 ≤ (so + 1) * 10 = omega (arith, small) in
        let wider : (so * 10 + d + 1) * 10 ^ length ds ≤ (so + 1) * 10 * 10 ^ length ds = mul-le-mul_right (10 ^ length ds) more in
        let power : 10 ^ suc (length ds) ≡ 10 * 10 ^ length ds = pow-succ' 10 (length ds) in
        let whole : (so + 1) * 10 * 10 ^ length ds ≡ (so + 1) * 10 ^ suc (length ds) = mul_assoc (so + 1) 10 (10 ^ length ds) ∙ ap (λ q. (so + 1) * q) (sym power) in
        subst (λ q. v < q) whole (omega (arith, ih, wider))

number_below : (x : ℕ) (ds : List ℕ) → number_in (x ∷ ds) < 10 ^ length ds
number_below x [] = omega arith
number_below x (d ∷ ds) = by (value 0 (d ∷ ds)) refl
  where
    by : (o : Option ℕ) → value 0 (d ∷ ds) ≡ o → (elim o [ Some n ↦ n | None ↦ 0 ]) < 10 ^ length (d ∷ ds)
    by None e = one-le-pow (length (d ∷ ds)) 10 (omega arith)
    by (Some v) e = let h = value_below (d ∷ ds) 0 v e in omega (arith, h)

onto_length : (k n : ℕ) (acc : List ℕ) → length (digits_onto k 10 false n acc) ≤ k + length acc
onto_length zero n acc = omega arith
onto_length (suc k) n acc = by (n / 10 == 0) (onto_length k (n / 10) (digit_glyph false (n % 10) ∷ acc))
  where
    by : (t : Bool) → length (digits_onto k 10 false (n / 10) (digit_glyph false (n % 10) ∷ acc)) ≤ k + length (digit_glyph false (n % 10) ∷ acc)
        → length (if t then digit_glyph false (n % 10) ∷ acc else digits_onto k 10 false (n / 10) (digit_glyph false (n % 10) ∷ acc)) ≤ suc k + length acc
    by true h = omega arith
    by false h = omega (arith, h)

decimal_length : (n : ℕ) → length (decimal n) ≤ 64
unfolding digits
decimal_length n = onto_length 64 n []

canonical_decimal : (n : ℕ) → n < 10 ^ 64 → is_canonical (decimal n) ≡ true
canonical_decimal n h =
    let c = decimal_by_steps_wide Canon canon_one canon_more n h in
    let long = decimal_length n in
    let some = c.some in
    and_from _ _ (and_from _ _ (and_from _ _ c.digits_are (let e : not (length (decimal n) == 0) ≡ true = grind (arith, nat_tests) in e)) (first n c)) (let e : nat_le (length (decimal n)) 64 ≡ true = grind (arith, nat_tests) in e)
  where
    either : (a b : Bool) → b ≡ true → (a || b) ≡ true
    either true b h = refl
    either false b h = h

    first : (n : ℕ) → Canon n (decimal n) → (not (begins_with 48 (decimal n)) || (length (decimal n) == 1)) ≡ true
    first zero c = either (not (begins_with 48 (decimal 0))) (length (decimal 0) == 1) (let s = c.single (omega arith) in let e : (length (decimal 0) == 1) ≡ true = grind (arith, nat_tests) in e)
    first (suc n) c = ap (λ t. not t || (length (decimal (suc n)) == 1)) (c.first (omega arith))

-- ---- names with a number

to_same : (a b : Bool) → (a ≡ true → b ≡ true) → (b ≡ true → a ≡ true) → a ≡ b
to_same true true f g = refl
to_same true false f g = sym (f refl)
to_same false true f g = g refl
to_same false false f g = refl

pub record Numbered (x : ℕ) (ds : List ℕ) : Type 0 where
  pub good : Good ds (number_in (x ∷ ds))
  pub long : length ds ≤ 64
  pub first : 2 ≤ length ds → begins_with 48 ds ≡ false

pub numbered : (x : ℕ) (ds : List ℕ) → is_canonical ds ≡ true → Numbered x ds
numbered x [] h = absurd cc
numbered x (d ∷ ds) h =
    let p = and_parts (each is_digit (d ∷ ds) && not (length (d ∷ ds) == 0) && (not (begins_with 48 (d ∷ ds)) || (length (d ∷ ds) == 1))) (nat_le (length (d ∷ ds)) 64) h in
    let q = and_parts (each is_digit (d ∷ ds) && not (length (d ∷ ds) == 0)) (not (begins_with 48 (d ∷ ds)) || (length (d ∷ ds) == 1)) p.0 in
    let r = and_parts (each is_digit (d ∷ ds)) (not (length (d ∷ ds) == 0)) q.0 in
    let long : length (d ∷ ds) ≤ 64 = (let t = p.1 in grind (arith, nat_tests)) in
    let first : 2 ≤ length (d ∷ ds) → begins_with 48 (d ∷ ds) ≡ false = (λ m. starts (begins_with 48 (d ∷ ds)) (length (d ∷ ds)) m q.1) in
    let g = good_of (length ds) (d ∷ ds) refl (omega (arith, long)) r.0 (λ m. first (omega (arith, m))) in
    record {
      good = subst (Good (d ∷ ds)) (ap (λ o. elim o as (λ _. ℕ) [ Some n ↦ n | None ↦ 0 ]) (sym g.1.value_is)) g.1;
      long = long;
      first = first;
    }
  where
    starts : (b : Bool) (n : ℕ) → 2 ≤ n → (not b || (n == 1)) ≡ true → b ≡ false
    starts false n m h = refl
    starts true n m h = absurd (let e : n ≡ 1 = grind (arith, nat_tests) in omega (arith, e, m))

digits_same : (x : ℕ) (ds : List ℕ) → same_name ds (decimal (number_in (x ∷ ds))) ≡ is_canonical ds
digits_same x ds = to_same (same_name ds (decimal (number_in (x ∷ ds)))) (is_canonical ds)
    (λ h.
    let e = same-true ds (decimal (number_in (x ∷ ds))) h in
    let long : length ds ≤ 64 = subst (λ xs. length xs ≤ 64) (sym e) (decimal_length (number_in (x ∷ ds))) in
    let most : 10 ^ length ds ≤ 10 ^ 64 = pow-le-pow_right {n = 10} (let p : 0 < 10 = omega arith in p) {i = length ds} {j = 64} long in
    let below = number_below x ds in
    ap is_canonical e ∙ canonical_decimal (number_in (x ∷ ds)) (omega (arith, below, most)))
    (λ h. ap (same_name ds) (numbered x ds h).good.text ∙ same-refl ds)

-- a name that is a letter with its number
pub numbered_is : (letter : ℕ) (x : List ℕ) → same_name x (letter ∷ decimal (number_in x)) ≡ (begins_with letter x && is_canonical (drop 1 x))
numbered_is letter [] = refl
numbered_is letter (x ∷ ds) = ap (λ t. (x == letter) && t) (digits_same x ds)

-- ---- the number that digits write

at_least : (ds : List ℕ) (so v : ℕ) → value so ds ≡ Some v → so ≤ v
at_least [] so v h = let e : so ≡ v = cc in omega (arith, e)
at_least (b ∷ ds) so v h = by (λ d. at_least ds (so * 10 + d) v) (dec_digit b) h
  where
    by : ((d : ℕ) → value (so * 10 + d) ds ≡ Some v → so * 10 + d ≤ v) → (o : Option ℕ) → option_and_then (λ d. value (so * 10 + d) ds) o ≡ Some v → so ≤ v
    by f None e = absurd cc
    by f (Some d) e = let h = f d e in omega (arith, h)

value_left : (ds : List ℕ) (v i : ℕ) → i < length ds → value v (drop i ds) ≡ option_and_then (λ d. value (v * 10 + d) (drop (i + 1) ds)) (dec_digit (get_or ds i 0))
value_left ds v i h = at_drop_more (value v) ds i 0 h

-- the value so far, and the digits that are left
abbrev pub Reads : List ℕ → (v i : ℕ) → Type 0
Reads ds v i = digits_after 10 dec_digit v (drop i ds) ≡ digits_after 10 dec_digit 0 ds

none_small : (n : ℕ) → 2 ^ 32 - 1 ≤ n → None ≡ small n
none_small n h = sym (ap (λ b. kept_if b n) (let f : is_small n ≡ false = grind (arith, nat_tests) in f))

pub too_large : (ds : List ℕ) (v i d n : ℕ) → i < length ds → Reads ds v i → digits_after 10 dec_digit 0 ds ≡ Some n → dec_digit (get_or ds i 0) ≡ Some d → 2 ^ 32 ≤ v * 10 + d → None ≡ small n
too_large ds v i d n h r k x l =
    let rest : value (v * 10 + d) (drop (i + 1) ds) ≡ Some n = sym (value_left ds v i h ∙ ap (option_and_then (λ d. value (v * 10 + d) (drop (i + 1) ds))) x) ∙ r ∙ k in
    let least = at_least (drop (i + 1) ds) (v * 10 + d) n rest in
    none_small n (omega (arith, l, least))

-- the number of a name
pub digits_of : (letter : ℕ) (x : List ℕ) → same_name x (letter ∷ decimal (number_in x)) ≡ true → digits_after 10 dec_digit 0 (drop 1 x) ≡ Some (number_in x)
digits_of letter [] h = absurd cc
digits_of letter (x ∷ ds) h = (numbered x ds (sym (digits_same x ds) ∙ (and_parts (x == letter) (same_name ds (decimal (number_in (x ∷ ds)))) h).1)).good.value_is

pub not_small : (n : ℕ) → None ≡ small n → is_small n ≡ false
not_small n h = by (is_small n) h
  where
    by : (b : Bool) → None ≡ kept_if b n → b ≡ false
    by false e = refl
    by true e = absurd cc
