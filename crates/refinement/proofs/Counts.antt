-- How often numbers stand in lists, and functions that give one list from another whose numbers stand once each.
use Rattle.std.proofs.Common.{◌≡◌, ℕ, suc, ◌+◌, ◌≤◌, ◌==◌, ◌&&◌, ◌||◌, List, [], ◌∷◌, ◌++◌, map, length, not, Bool, true, false, if◌then◌else◌, refl, sym, ap, subst, ◌∙◌, arith}
use Rattle.std.proofs.lemmas.Bool.Decides.{nat_tests}
use Rattle.cocoon_num.specs.Lists.{has_number, no_repeats}

abbrev one_if : Bool → ℕ
one_if true = 1
one_if false = 0

-- how often it stands there
abbrev pub count_of : ℕ → List ℕ → ℕ
count_of c [] = 0
count_of c (x ∷ xs) = one_if (c == x) + count_of c xs

pub count_append : (c : ℕ) (xs ys : List ℕ) → count_of c (xs ++ ys) ≡ count_of c xs + count_of c ys
count_append c [] ys = omega arith
count_append c (x ∷ xs) ys = let h = count_append c xs ys in omega (arith, h)

absent_step : (b : Bool) (c : ℕ) (xs : List ℕ) (r : Bool) → (r ≡ false → count_of c xs ≡ 0) → (b || r) ≡ false → one_if b + count_of c xs ≡ 0
absent_step true c xs r f h = absurd (cc)
absent_step false c xs r f h = let e = f h in omega (arith, e)

absent : (c : ℕ) (xs : List ℕ) → has_number c xs ≡ false → count_of c xs ≡ 0
absent c [] h = refl
absent c (x ∷ xs) h = absent_step (c == x) c xs (has_number c xs) (absent c xs) h

once_step : (b a : Bool) (c : ℕ) (xs : List ℕ) → (b ≡ true → a ≡ true → count_of c xs ≡ 0) → count_of c xs ≤ 1 → a ≡ true → one_if b + count_of c xs ≤ 1
once_step true a c xs f l h = let e = f refl h in omega (arith, e)
once_step false a c xs f l h = omega (arith, l)

not_true : (b : Bool) → not b ≡ true → b ≡ false
not_true true h = absurd (cc)
not_true false h = refl

both_of : (a b : Bool) → (a && b) ≡ true → (a ≡ true) × (b ≡ true)
both_of true b h = (refl, h)
both_of false b h = absurd (cc)

number_of : (a b : ℕ) → (a == b) ≡ true → a ≡ b
number_of a b h = grind (arith, h)

-- where no number stands twice, each stands once at most
pub once_at_most : (xs : List ℕ) → no_repeats xs ≡ true → (c : ℕ) → count_of c xs ≤ 1
once_at_most [] h c = omega arith
once_at_most (x ∷ xs) h c =
    let both = both_of (not (has_number x xs)) (no_repeats xs) h in
    once_step (c == x) (not (has_number x xs)) c xs
    (λ e q. ap (λ z. count_of z xs) (number_of c x e) ∙ absent x xs (not_true (has_number x xs) q))
    (once_at_most xs both.1 c) both.0

-- ---- functions

-- one number's is another
abbrev pub with_number : ℕ → ℕ → (ℕ → ℕ) → ℕ → ℕ
with_number m n f c = if c == m then n else f c

number_self : (m : ℕ) → (m == m) ≡ true
number_self m = grind arith

at_number : (b : Bool) (n m : ℕ) → b ≡ true → (if b then n else m) ≡ n
at_number true n m h = refl
at_number false n m h = absurd (cc)

off_number : (b : Bool) (n m : ℕ) → b ≡ false → (if b then n else m) ≡ m
off_number true n m h = absurd (cc)
off_number false n m h = refl

differ_if : (m x : ℕ) (xs : List ℕ) (k : ℕ) → one_if (m == x) + k ≡ 0 → (x == m) ≡ false
differ_if m x xs k h = by (m == x) refl h
  where
    by : (b : Bool) → (m == x) ≡ b → one_if b + k ≡ 0 → (x == m) ≡ false
    by true e q = absurd (omega (arith, q))
    by false e q = grind (arith, nat_tests, e)

same_off : (m n : ℕ) (f : ℕ → ℕ) (xs : List ℕ) → count_of m xs ≡ 0 → map (with_number m n f) xs ≡ map f xs
same_off m n f [] h = refl
same_off m n f (x ∷ xs) h =
    let first : with_number m n f x ≡ f x = off_number (x == m) n (f x) (differ_if m x xs (count_of m xs) h) in
    let more = same_off m n f xs (omega (arith, h)) in
    (λ i. first i ∷ more i)

later_once : (m : ℕ) (ms : List ℕ) → ((c : ℕ) → count_of c (m ∷ ms) ≤ 1) → (c : ℕ) → count_of c ms ≤ 1
later_once m ms h c = let l = h c in omega (arith, l)

-- numbers that stand once each are sent to any others, as many
pub numbered : (ms ns : List ℕ) → length ms ≡ length ns → ((c : ℕ) → count_of c ms ≤ 1) → (f : ℕ → ℕ) × (ns ≡ map f ms)
numbered [] [] l h = (λ c. 0, refl)
numbered [] (n ∷ ns) l h = absurd (omega (arith, l))
numbered (m ∷ ms) [] l h = absurd (omega (arith, l))
numbered (m ∷ ms) (n ∷ ns) l h =
    let rest = numbered ms ns (omega (arith, l)) (later_once m ms h) in
    let once = h m in
    let none : count_of m ms ≡ 0 = (let s : one_if (m == m) ≡ 1 = ap one_if (number_self m) in omega (arith, once, s)) in
    (with_number m n rest.0, (λ i. sym (at_number (m == m) n (rest.0 m) (number_self m)) i ∷ (rest.1 ∙ sym (same_off m n rest.0 ms none)) i))

-- the first of two functions at the numbers of a list, and the second elsewhere
abbrev pub within : List ℕ → (ℕ → ℕ) → (ℕ → ℕ) → ℕ → ℕ
within xs f g c = if has_number c xs then f c else g c

or_true : (a b : Bool) → b ≡ true → (a || b) ≡ true
or_true true b h = refl
or_true false b h = h

or_first : (a b : Bool) → a ≡ true → (a || b) ≡ true
or_first true b h = refl
or_first false b h = absurd (cc)

within_all : (all xs : List ℕ) (f g : ℕ → ℕ) → ((c : ℕ) → has_number c xs ≡ true → has_number c all ≡ true) → map (within all f g) xs ≡ map f xs
within_all all [] f g h = refl
within_all all (x ∷ xs) f g h =
    let first : within all f g x ≡ f x = at_number (has_number x all) (f x) (g x) (h x (or_first (x == x) (has_number x xs) (number_self x))) in
    let more = within_all all xs f g (λ c q. h c (or_true (c == x) (has_number c xs) q)) in
    (λ i. first i ∷ more i)

pub within_same : (xs : List ℕ) (f g : ℕ → ℕ) → map (within xs f g) xs ≡ map f xs
within_same xs f g = within_all xs xs f g (λ c h. h)

-- ---- lists in two parts

pub length_append : (xs ys : List ℕ) → length (xs ++ ys) ≡ length xs + length ys
length_append [] ys = omega arith
length_append (x ∷ xs) ys = let h = length_append xs ys in omega (arith, h)

-- what is a map of two lists one after another is in two parts
pub parted : (f : ℕ → ℕ) (xs ys ns ms : List ℕ) → length xs ≡ length ns → ns ++ ms ≡ map f (xs ++ ys) → (ns ≡ map f xs) × (ms ≡ map f ys)
parted f [] ys [] ms l h = (refl, h)
parted f [] ys (n ∷ ns) ms l h = absurd (omega (arith, l))
parted f (x ∷ xs) ys [] ms l h = absurd (omega (arith, l))
parted f (x ∷ xs) ys (n ∷ ns) ms l h =
    let first : n ≡ f x = cc in
    let more : ns ++ ms ≡ map f (xs ++ ys) = cc in
    let rest = parted f xs ys ns ms (omega (arith, l)) more in
    ((λ i. first i ∷ rest.0 i), rest.1)

pub map_append : (f : ℕ → ℕ) (xs ys : List ℕ) → map f (xs ++ ys) ≡ map f xs ++ map f ys
map_append f [] ys = refl
map_append f (x ∷ xs) ys = ap (λ zs. f x ∷ zs) (map_append f xs ys)
