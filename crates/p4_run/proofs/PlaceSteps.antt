-- Numbers that are put in one after another, and which of them stand first.
use Rattle.std.proofs.Common.{◌≡◌, ℕ, zero, suc, ◌+◌, ◌<◌, ◌==◌, ◌||◌, not, Bool, true, false, if◌then◌else◌, List, [], ◌∷◌, ◌++◌, length, map, take, get_or, sym, ◌∙◌, ap, arith}
use Rattle.std.proofs.lemmas.Bool.{eq-eqb}
use Rattle.std.proofs.lemmas.Bool.Decides.{nat_tests}
use Rattle.std.proofs.lemmas.List.{map-append, map_more}
use Rattle.cocoon_num.specs.Lists.{has_number}
use Rattle.numbering.specs.NumberPlaces.{place_of}
use Rattle.p4_run.proofs.TestSteps.{is_symmetric}

pub numbers_more : {A B : Type 0} (f : A → B) (number : B → ℕ) (xs : List A) (i : ℕ) (x : A) → i < length xs → x ≡ get_or xs i x
    → map number (map f (take (i + 1) xs)) ≡ map number (map f (take i xs)) ++ number (f x) ∷ []
numbers_more f number xs i x l e =
    ap (map number) (map_more f xs i x l)
    ∙ map-append number (map f (take i xs)) (f (get_or xs i x) ∷ [])
    ∙ ap (λ y. map number (map f (take i xs)) ++ number (f y) ∷ []) (sym e)

-- ---- a number is the first of its kind where it stands at its place

zero_apart : (i : ℕ) → false ≡ (0 == suc i)
zero_apart i = grind (arith, nat_tests)

next_alike : (k i : ℕ) → (k == i) ≡ (suc k == suc i)
next_alike k i = grind (arith, nat_tests)

first_step : (b has : Bool) (k i : ℕ) → not has ≡ (k == i) → not (b || has) ≡ ((if b then 0 else suc k) == suc i)
first_step true has k i h = zero_apart i
first_step false has k i h = h ∙ next_alike k i

pub is_first : {A B : Type 0} (f : A → B) (number : B → ℕ) (xs : List A) (i : ℕ) (x : A) → i < length xs → x ≡ get_or xs i x
    → not (has_number (number (f x)) (map number (map f (take i xs)))) ≡ (place_of (map number (map f xs)) (number (f x)) == i)
is_first f number [] i x l e = absurd (omega arith)
is_first f number (y ∷ xs) zero x l e =
    let n = number (f x) in
    sym (ap (λ b. (if b then 0 else suc (place_of (map number (map f xs)) n)) == 0) (eq-eqb (number (f y)) n (ap (λ z. number (f z)) (sym e))))
is_first f number (y ∷ xs) (suc i) x l e =
    let n = number (f x) in
    let before = has_number n (map number (map f (take i xs))) in
    ap (λ b. not (b || before)) (is_symmetric n (number (f y)))
    ∙ first_step (number (f y) == n) before (place_of (map number (map f xs)) n) i (is_first f number xs i x (omega arith) e)
