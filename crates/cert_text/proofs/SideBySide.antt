-- Two lists, item beside item.
use Rattle.std.proofs.Common.{◌≡◌, ℕ, zero, suc, ◌≤◌, List, [], ◌∷◌, take, length, Some, refl, sym, subst, arith}
use Rattle.std.specs.Prelude.{slice_get}
use Rattle.std.specs.List.{All, AllZip}
use Rattle.std.proofs.lemmas.List.{take_all}

module _ {A B : Type 0} (R : A → B → Type 0) where
  -- what stands beside an item
  pub beside : (xs : List A) (ys : List B) → AllZip R xs ys → (n : ℕ) (x : A) → slice_get xs n ≡ Some x → (y : B) × (slice_get ys n ≡ Some y) × R x y
  beside [] ys h n x e = absurd (cc)
  beside (a ∷ xs) [] h n x e = absurd h
  beside (a ∷ xs) (b ∷ ys) h zero x e = let same : a ≡ x = cc in (b, refl, subst (λ u. R u b) same h.0)
  beside (a ∷ xs) (b ∷ ys) h (suc n) x e = beside xs ys h.1 n x e

  -- the same of an item on the right
  pub before_it : (xs : List A) (ys : List B) → AllZip R xs ys → (n : ℕ) (y : B) → slice_get ys n ≡ Some y → (x : A) × (slice_get xs n ≡ Some x) × R x y
  before_it [] [] h n y e = absurd (cc)
  before_it [] (b ∷ ys) h n y e = absurd h
  before_it (a ∷ xs) [] h n y e = absurd h
  before_it (a ∷ xs) (b ∷ ys) h zero y e = let same : b ≡ y = cc in (a, refl, subst (R a) same h.0)
  before_it (a ∷ xs) (b ∷ ys) h (suc n) y e = before_it xs ys h.1 n y e

  -- one more item of both
  pub one_more : (n : ℕ) (xs : List A) (ys : List B) (x : A) (y : B) → AllZip R (take n xs) (take n ys) → slice_get xs n ≡ Some x → slice_get ys n ≡ Some y → R x y → AllZip R (take (suc n) xs) (take (suc n) ys)
  one_more n [] ys x y h ex ey r = absurd (cc)
  one_more n (a ∷ xs) [] x y h ex ey r = absurd (cc)
  one_more zero (a ∷ xs) (b ∷ ys) x y h ex ey r =
      let left : a ≡ x = cc in
      let right : b ≡ y = cc in
      (subst (λ u. R u b) (sym left) (subst (R x) (sym right) r), tt)
  one_more (suc n) (a ∷ xs) (b ∷ ys) x y h ex ey r = (h.0, one_more n xs ys x y h.1 ex ey r)

  -- all items of both
  pub all_of : (n : ℕ) (xs : List A) (ys : List B) → length xs ≤ n → length ys ≤ n → AllZip R (take n xs) (take n ys) → AllZip R xs ys
  all_of n xs ys k l h = subst (λ us. AllZip R us ys) (take_all n xs k) (subst (AllZip R (take n xs)) (take_all n ys l) h)

  -- another fact, which each pair has
  pub weaker : (S : A → B → Type 0) → ((x : A) (y : B) → R x y → S x y) → (xs : List A) (ys : List B) → AllZip R xs ys → AllZip S xs ys
  weaker S f [] [] h = tt
  weaker S f [] (y ∷ ys) h = absurd h
  weaker S f (x ∷ xs) [] h = absurd h
  weaker S f (x ∷ xs) (y ∷ ys) h = (f x y h.0, weaker S f xs ys h.1)

  -- a fact of each left item
  pub of_left : (P : A → Type 0) → ((x : A) (y : B) → R x y → P x) → (xs : List A) (ys : List B) → AllZip R xs ys → All P xs
  of_left P f [] ys h k d l = absurd (omega (arith, l))
  of_left P f (x ∷ xs) [] h k d l = absurd h
  of_left P f (x ∷ xs) (y ∷ ys) h zero d l = f x y h.0
  of_left P f (x ∷ xs) (y ∷ ys) h (suc k) d l = of_left P f xs ys h.1 k d (omega (arith, l))

-- two lists beside a third one stand beside each other
pub through : {A B C : Type 0} (R : A → B → Type 0) (S : A → C → Type 0) (T : B → C → Type 0) → ((x : A) (y : B) (z : C) → R x y → S x z → T y z)
    → (xs : List A) (ys : List B) (zs : List C) → AllZip R xs ys → AllZip S xs zs → AllZip T ys zs
through R S T f [] [] [] h k = tt
through R S T f [] [] (z ∷ zs) h k = absurd k
through R S T f [] (y ∷ ys) zs h k = absurd h
through R S T f (x ∷ xs) [] zs h k = absurd h
through R S T f (x ∷ xs) (y ∷ ys) [] h k = absurd k
through R S T f (x ∷ xs) (y ∷ ys) (z ∷ zs) h k = (f x y z h.0 k.0, through R S T f xs ys zs h.1 k.1)

-- a fact of each item, by its place
pub by_place : {A : Type 0} (P : A → Type 0) (xs : List A) → ((n : ℕ) (x : A) → slice_get xs n ≡ Some x → P x) → All P xs
by_place P [] f k d l = absurd (omega (arith, l))
by_place P (x ∷ xs) f zero d l = f zero x refl
by_place P (x ∷ xs) f (suc k) d l = by_place P xs (λ n y e. f (suc n) y e) k d (omega (arith, l))
