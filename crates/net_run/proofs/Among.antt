-- Elements of lists, by recursion.
use Rattle.std.proofs.Common.{◌≡◌, ◌⊎◌, inl, inr, ℕ, zero, suc, ◌<◌, List, [], ◌∷◌, ◌++◌, Contains, length, map, refl, sym, subst, ap, arith, slice_index_or}
use Rattle.std.specs.List.{flat_map}

abbrev pub Among : {A : Type 0} → A → List A → Type 0
Among x [] = ⊥
Among x (y ∷ ys) = (x ≡ y) ⊎ Among x ys

pub among_left : {A : Type 0} (x : A) (xs ys : List A) → Among x xs → Among x (xs ++ ys)
among_left x [] ys h = absurd h
among_left x (z ∷ zs) ys (inl e) = inl e
among_left x (z ∷ zs) ys (inr h) = inr (among_left x zs ys h)

pub among_right : {A : Type 0} (x : A) (xs ys : List A) → Among x ys → Among x (xs ++ ys)
among_right x [] ys h = h
among_right x (z ∷ zs) ys h = inr (among_right x zs ys h)

pub among_either : {A : Type 0} (x : A) (xs ys : List A) → Among x (xs ++ ys) → Among x xs ⊎ Among x ys
among_either x [] ys h = inr h
among_either x (z ∷ zs) ys (inl e) = inl (inl e)
among_either x (z ∷ zs) ys (inr h) = elim (among_either x zs ys h) [ inl a ↦ inl (inr a) | inr b ↦ inr b ]

pub among_map : {A B : Type 0} (f : A → B) (x : A) (xs : List A) → Among x xs → Among (f x) (map f xs)
among_map f x [] h = absurd h
among_map f x (z ∷ zs) (inl e) = inl (ap f e)
among_map f x (z ∷ zs) (inr h) = inr (among_map f x zs h)

pub mapped_from : {A B : Type 0} (f : A → B) (y : B) (xs : List A) → Among y (map f xs) → (x : A) × Among x xs × (y ≡ f x)
mapped_from f y [] h = absurd h
mapped_from f y (z ∷ zs) (inl e) = (z, inl refl, e)
mapped_from f y (z ∷ zs) (inr h) = let r = mapped_from f y zs h in (r.0, inr r.1, r.2)

pub among_flat : {A B : Type 0} (f : A → List B) (y : B) (x : A) (xs : List A) → Among x xs → Among y (f x) → Among y (flat_map f xs)
among_flat f y x [] h i = absurd h
among_flat f y x (z ∷ zs) (inl e) i = among_left y (f z) (flat_map f zs) (subst (λ w. Among y (f w)) e i)
among_flat f y x (z ∷ zs) (inr h) i = among_right y (f z) (flat_map f zs) (among_flat f y x zs h i)

pub flat_from : {A B : Type 0} (f : A → List B) (y : B) (xs : List A) → Among y (flat_map f xs) → (x : A) × Among x xs × Among y (f x)
flat_from f y [] h = absurd h
flat_from f y (z ∷ zs) h = elim (among_either y (f z) (flat_map f zs) h) [
  | inl a ↦ (z, inl refl, a)
  | inr b ↦ (let r = flat_from f y zs b in (r.0, inr r.1, r.2))
]

pub contains : {A : Type 0} (x : A) (xs : List A) → Among x xs → Contains xs x
contains x [] h = absurd h
contains x (y ∷ ys) (inl e) = (0, omega arith, sym e)
contains x (y ∷ ys) (inr h) = let r = contains x ys h in (suc r.0, omega (arith, r.1), r.2)

among_at : {A : Type 0} (x : A) (xs : List A) (k : ℕ) → k < length xs → slice_index_or xs k x ≡ x → Among x xs
among_at x [] k l e = absurd (omega (arith, l))
among_at x (y ∷ ys) zero l e = inl (sym e)
among_at x (y ∷ ys) (suc k) l e = inr (among_at x ys k (omega (arith, l)) e)

pub among : {A : Type 0} (x : A) (xs : List A) → Contains xs x → Among x xs
among x xs h = among_at x xs h.0 h.1 h.2
