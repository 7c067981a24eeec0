-- The first items of lists.
use Rattle.std.proofs.Common.{◌≡◌, ℕ, zero, suc, ◌+◌, ◌<◌, ◌≤◌, List, [], ◌∷◌, ◌++◌, fold, length, map, take, Some, if◌then◌else◌, Bool, true, false, refl, ap, sym, ◌∙◌, arith}
use Rattle.std.specs.Prelude.{slice_get}
use Rattle.std.specs.List.{AllByRecursion, list_any}
use Rattle.std.proofs.lemmas.List.{append_assoc, append-nil}
use Rattle.cocoon_num.specs.Names.{same_name}
use Rattle.pattern_instances.specs.Found.{with_ids}

pub taken-map : {A B : Type 0} (f : A → B) (n : ℕ) (xs : List A) → map f (take n xs) ≡ take n (map f xs)
taken-map f zero xs = refl
taken-map f (suc n) [] = refl
taken-map f (suc n) (x ∷ xs) = ap (λ ys. f x ∷ ys) (taken-map f n xs)

pub taken-all : {A : Type 0} (P : A → Type 0) (n : ℕ) (xs : List A) → AllByRecursion P xs → AllByRecursion P (take n xs)
taken-all P zero xs h = tt
taken-all P (suc n) [] h = tt
taken-all P (suc n) (x ∷ xs) h = (h.0, taken-all P n xs h.1)

-- ---- of two lists

taken-second : {A : Type 0} (n k : ℕ) → n ≤ k → (ys : List A) → take n (take k ys) ≡ take n ys
taken-second zero k l ys = refl
taken-second (suc n) zero l ys = absurd (omega (arith, l))
taken-second (suc n) (suc k) l [] = refl
taken-second (suc n) (suc k) l (y ∷ ys) = ap (λ zs. y ∷ zs) (taken-second n k (omega (arith, l)) ys)

firsts : {A : Type 0} (n k : ℕ) → n ≤ k → (xs ys : List A) → take n (take n xs ++ take k ys) ≡ take n (xs ++ ys)
firsts zero k l xs ys = refl
firsts (suc n) k l [] ys = taken-second (suc n) k l ys
firsts (suc n) k l (x ∷ xs) ys = ap (λ zs. x ∷ zs) (firsts n k (omega (arith, l)) xs ys)

-- the first ones of both are enough
pub first-of-both : {A : Type 0} (n : ℕ) (xs ys : List A) → take n (take n xs ++ take n ys) ≡ take n (xs ++ ys)
first-of-both n xs ys = firsts n n (let e : n ≤ n = omega arith in e) xs ys

pub enough : {A : Type 0} (n : ℕ) (xs ys : List A) → n ≤ length xs → take n (xs ++ ys) ≡ take n xs
enough zero xs ys l = refl
enough (suc n) [] ys l = absurd (omega (arith, l))
enough (suc n) (x ∷ xs) ys l = ap (λ zs. x ∷ zs) (enough n xs ys (omega (arith, l)))

-- so few are all
pub few : {A : Type 0} (n : ℕ) (xs : List A) → length (take n xs) < n → take n xs ≡ xs
few zero xs l = absurd (omega (arith, l))
few (suc n) [] l = refl
few (suc n) (x ∷ xs) l = ap (λ ys. x ∷ ys) (few n xs (omega (arith, l)))

pub short : {A : Type 0} (n : ℕ) (xs : List A) → length xs ≤ n → take n xs ≡ xs
short zero [] l = refl
short zero (x ∷ xs) l = absurd (omega (arith, l))
short (suc n) [] l = refl
short (suc n) (x ∷ xs) l = ap (λ ys. x ∷ ys) (short n xs (omega (arith, l)))

length-more : {A : Type 0} (xs : List A) (x : A) → length (xs ++ x ∷ []) ≡ suc (length xs)
length-more [] x = refl
length-more (y ∷ xs) x = ap suc (length-more xs x)

-- there is room for one item more
pub room : {A : Type 0} (n : ℕ) (xs : List A) (x : A) → length (take n xs) < n → take n xs ++ x ∷ [] ≡ take n (xs ++ x ∷ [])
room n xs x l =
    let all = few n xs l in
    ap (λ ys. ys ++ x ∷ []) all
    ∙ sym (short n (xs ++ x ∷ []) (let e = length-more xs x in let k = ap length all in omega (arith, e, k, l)))

-- there is no room for more
pub full : {A : Type 0} (n : ℕ) (xs ys : List A) → n ≤ length (take n xs) → take n xs ≡ take n (xs ++ ys)
full zero xs ys l = refl
full (suc n) [] ys l = absurd (omega (arith, l))
full (suc n) (x ∷ xs) ys l = ap (λ zs. x ∷ zs) (full n xs ys (omega (arith, l)))

-- ---- one item after the other

pub next : {A : Type 0} (xs : List A) (i : ℕ) (x : A) → slice_get xs i ≡ Some x → take (i + 1) xs ≡ take i xs ++ x ∷ []
next [] i x h = absurd (cc)
next (y ∷ xs) zero x h = let e : y ≡ x = cc in ap (λ z. z ∷ []) e
next (y ∷ xs) (suc i) x h =
    ap (λ n. take n (y ∷ xs)) (let e : suc i + 1 ≡ suc (i + 1) = omega arith in e) ∙ ap (λ zs. y ∷ zs) (next xs i x h)

pub fold-both : {A B : Type 0} (f : B → A → B) (b : B) (xs ys : List A) → fold f b (xs ++ ys) ≡ fold f (fold f b xs) ys
fold-both f b [] ys = refl
fold-both f b (x ∷ xs) ys = fold-both f (f b x) xs ys

-- ---- different tuples

grown : (b : Bool) (seen : List (List ℕ)) (ids : List ℕ) → (more : List (List ℕ)) × ((if b then seen else seen ++ ids ∷ []) ≡ seen ++ more)
grown true seen ids = ([], sym (append-nil seen))
grown false seen ids = (ids ∷ [], refl)

-- those so far stay the first
pub distinct-grow : (seen tuples : List (List ℕ)) → (more : List (List ℕ)) × (fold with_ids seen tuples ≡ seen ++ more)
distinct-grow seen [] = ([], sym (append-nil seen))
distinct-grow seen (ids ∷ tuples) =
    let g = grown (list_any (same_name ids) seen) seen ids in
    let r = distinct-grow (with_ids seen ids) tuples in
    (g.0 ++ r.0, r.1 ∙ ap (λ s. s ++ r.0) g.1 ∙ append_assoc seen g.0 r.0)
