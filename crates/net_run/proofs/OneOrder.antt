-- Two lists with the same elements, whose choices ascend, are equal.
use Rattle.std.proofs.Common.{◌≡◌, inl, inr, ℕ, List, [], ◌∷◌, Contains, map, refl, sym, subst, ap, ◌∙◌, arith}
use Rattle.net_run.specs.Ascending.{Ahead, AheadOfAll, Ascending}
use Rattle.net_run.proofs.Among.{Among, among, contains}

not_back : (xs ys : List ℕ) → Ahead xs ys → Ahead ys xs → ⊥
not_back [] [] a b = a
not_back [] (y ∷ ys) a b = b
not_back (x ∷ xs) [] a b = a
not_back (x ∷ xs) (y ∷ ys) (inl l) (inl m) = omega (arith, l, m)
not_back (x ∷ xs) (y ∷ ys) (inl l) (inr m) = let e = m.0 in omega (arith, l, e)
not_back (x ∷ xs) (y ∷ ys) (inr l) (inl m) = let e = l.0 in omega (arith, e, m)
not_back (x ∷ xs) (y ∷ ys) (inr l) (inr m) = not_back xs ys l.1 m.1

ahead_of_each : {A : Type 0} (key : A → List ℕ) (cs : List ℕ) (xs : List A) (x : A) → AheadOfAll cs (map key xs) → Among x xs → Ahead cs (key x)
ahead_of_each key cs [] x a h = absurd h
ahead_of_each key cs (y ∷ ys) x a (inl e) = subst (λ z. Ahead cs (key z)) (sym e) a.0
ahead_of_each key cs (y ∷ ys) x a (inr h) = ahead_of_each key cs ys x a.1 h

-- what is behind the first of both, where the firsts are equal
behind_first : {A : Type 0} (key : A → List ℕ) (x y : A) (xs ys : List A) → x ≡ y → AheadOfAll (key x) (map key xs) → (z : A) → Among z xs → Among z (y ∷ ys) → Among z ys
behind_first key x y xs ys e a z h (inl i) =
    let k : Ahead (key x) (key z) = ahead_of_each key (key x) xs z a h in
    let back : Ahead (key x) (key x) = subst (λ w. Ahead (key x) (key w)) (i ∙ sym e) k in absurd (not_back (key x) (key x) back back)
behind_first key x y xs ys e a z h (inr i) = i

same_first : {A : Type 0} (key : A → List ℕ) (x y : A) (xs ys : List A) → AheadOfAll (key x) (map key xs) → AheadOfAll (key y) (map key ys) → Among x (y ∷ ys) → Among y (x ∷ xs) → x ≡ y
same_first key x y xs ys a b (inl e) k = e
same_first key x y xs ys a b (inr h) (inl e) = sym e
same_first key x y xs ys a b (inr h) (inr k) = absurd (not_back (key x) (key y) (ahead_of_each key (key x) xs y a k) (ahead_of_each key (key y) ys x b h))

same_lists : {A : Type 0} (key : A → List ℕ) (xs ys : List A) → Ascending (map key xs) → Ascending (map key ys) → ((z : A) → Among z xs → Among z ys) → ((z : A) → Among z ys → Among z xs) → xs ≡ ys
same_lists key [] [] a b to from = refl
same_lists key [] (y ∷ ys) a b to from = absurd (from y (inl refl))
same_lists key (x ∷ xs) [] a b to from = absurd (to x (inl refl))
same_lists key (x ∷ xs) (y ∷ ys) a b to from =
    let e : x ≡ y = same_first key x y xs ys a.0 b.0 (to x (inl refl)) (from y (inl refl)) in
    let rest : xs ≡ ys = same_lists key xs ys a.1 b.1 (λ z h. behind_first key x y xs ys e a.0 z h (to z (inr h)))
    (λ z h. behind_first key y x ys xs (sym e) b.0 z h (from z (inr h))) in
    ap (λ z. z ∷ xs) e ∙ ap (λ zs. y ∷ zs) rest

pub one_order : {A : Type 0} (key : A → List ℕ) (xs ys : List A) → Ascending (map key xs) → Ascending (map key ys) → ((z : A) → Contains xs z → Contains ys z) → ((z : A) → Contains ys z → Contains xs z)
    → xs ≡ ys
one_order key xs ys a b to from = same_lists key xs ys a b (λ z h. among z ys (to z (contains z xs h))) (λ z h. among z xs (from z (contains z ys h)))

pub map_same : (xs : List (List ℕ)) → map (λ cs. cs) xs ≡ xs
map_same [] = refl
map_same (x ∷ xs) = ap (λ ys. x ∷ ys) (map_same xs)
