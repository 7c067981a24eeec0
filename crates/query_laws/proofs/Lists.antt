-- What holds of each member of lists.
use Rattle.std.proofs.Common.{◌≡◌, ℕ, zero, suc, ◌<◌, Bool, true, false, List, [], ◌∷◌, ◌++◌, length, map, take, Option, Some, None, if◌then◌else◌, refl, subst, arith}
use Rattle.std.specs.Prelude.{filter_map, flat_map, slice_get}
use Rattle.std.specs.List.{All, AllByRecursion, cons_option}
use Rattle.std.proofs.lemmas.List.Elements.{All-head, All-tail}

pub all-both : {A : Type 0} (P : A → Type 0) (xs ys : List A) → AllByRecursion P xs → AllByRecursion P ys → AllByRecursion P (xs ++ ys)
all-both P [] ys h k = k
all-both P (x ∷ xs) ys h k = (h.0, all-both P xs ys h.1 k)

pub all-mapped : {A B : Type 0} (P : A → Type 0) (Q : B → Type 0) (f : A → B) → ((x : A) → P x → Q (f x)) → (xs : List A) → AllByRecursion P xs → AllByRecursion Q (map f xs)
all-mapped P Q f g [] h = tt
all-mapped P Q f g (x ∷ xs) h = (g x h.0, all-mapped P Q f g xs h.1)

pub all-flat : {A B : Type 0} (P : A → Type 0) (Q : B → Type 0) (f : A → List B) → ((x : A) → P x → AllByRecursion Q (f x)) → (xs : List A) → AllByRecursion P xs → AllByRecursion Q (flat_map f xs)
all-flat P Q f g [] h = tt
all-flat P Q f g (x ∷ xs) h = all-both Q (f x) (flat_map f xs) (g x h.0) (all-flat P Q f g xs h.1)

all-option : {B : Type 0} (Q : B → Type 0) (o : Option B) (ys : List B) → ((y : B) → o ≡ Some y → Q y) → AllByRecursion Q ys → AllByRecursion Q (cons_option o ys)
all-option Q None ys h k = k
all-option Q (Some y) ys h k = (h y refl, k)

pub all-kept : {A B : Type 0} (P : A → Type 0) (Q : B → Type 0) (f : A → Option B) → ((x : A) → P x → (y : B) → f x ≡ Some y → Q y) → (xs : List A) → AllByRecursion P xs → AllByRecursion Q (filter_map f xs)
all-kept P Q f g [] h = tt
all-kept P Q f g (x ∷ xs) h = all-option Q (f x) (filter_map f xs) (g x h.0) (all-kept P Q f g xs h.1)

pub all-taken : {A : Type 0} (P : A → Type 0) (n : ℕ) (xs : List A) → AllByRecursion P xs → AllByRecursion P (take n xs)
all-taken P zero xs h = tt
all-taken P (suc n) [] h = tt
all-taken P (suc n) (x ∷ xs) h = (h.0, all-taken P n xs h.1)

pub all-weaker : {A : Type 0} (P Q : A → Type 0) → ((x : A) → P x → Q x) → (xs : List A) → AllByRecursion P xs → AllByRecursion Q xs
all-weaker P Q g [] h = tt
all-weaker P Q g (x ∷ xs) h = (g x h.0, all-weaker P Q g xs h.1)

pub all-places : {A : Type 0} (P : A → Type 0) (xs : List A) → ((n : ℕ) (x : A) → slice_get xs n ≡ Some x → P x) → AllByRecursion P xs
all-places P [] h = tt
all-places P (x ∷ xs) h = (h 0 x refl, all-places P xs (λ n. h (suc n)))

pub at-place : {A : Type 0} (P : A → Type 0) (xs : List A) (n : ℕ) (x : A) → All P xs → slice_get xs n ≡ Some x → P x
at-place P [] n x h e = absurd (cc)
at-place P (y ∷ xs) zero x h e = let is : y ≡ x = cc in subst P is (All-head P y xs h)
at-place P (y ∷ xs) (suc n) x h e = at-place P xs n x (All-tail P y xs h) e

pub in-front : {A : Type 0} (xs ys : List A) (n : ℕ) (x : A) → slice_get xs n ≡ Some x → slice_get (xs ++ ys) n ≡ Some x
in-front [] ys n x h = absurd (cc)
in-front (z ∷ xs) ys zero x h = h
in-front (z ∷ xs) ys (suc n) x h = in-front xs ys n x h

pub has-place : {A : Type 0} (xs : List A) (n : ℕ) → n < length xs → (x : A) × (slice_get xs n ≡ Some x)
has-place [] n l = absurd (omega (arith, l))
has-place (x ∷ xs) zero l = (x, refl)
has-place (x ∷ xs) (suc n) l = has-place xs n (omega (arith, l))

-- where a list grows by what passes
pub all-if : {A : Type 0} (P : A → Type 0) (b : Bool) (xs : List A) (x : A) → AllByRecursion P xs → P x → AllByRecursion P (if b then xs else xs ++ x ∷ [])
all-if P true xs x h p = h
all-if P false xs x h p = all-both P xs (x ∷ []) h (p, tt)
