-- Lists whose items are of a relation, pair by pair.
use Rattle.std.proofs.Common.{◌≡◌, ℕ, zero, suc, ◌+◌, ◌<◌, List, [], ◌∷◌, ◌++◌, get_or, length, take, slice_get, Some, refl, sym, ap, subst, ◌∙◌}
use Rattle.std.specs.List.{AllZip}
use Rattle.std.proofs.lemmas.List.{take_more}

-- one pair more
pub zip-more : {A B : Type 0} (R : A → B → Type 0) (xs : List A) (ys : List B) (x : A) (y : B) → AllZip R xs ys → R x y → AllZip R (xs ++ x ∷ []) (ys ++ y ∷ [])
zip-more R [] [] x y h k = (k, tt)
zip-more R [] (b ∷ ys) x y h k = absurd h
zip-more R (a ∷ xs) [] x y h k = absurd h
zip-more R (a ∷ xs) (b ∷ ys) x y h k = (h.0, zip-more R xs ys x y h.1 k)

-- pairs of one relation that are, place by place, of another
pub zip-with : {A B : Type 0} (R S : A → B → Type 0) (xs : List A) (ys : List B) → AllZip R xs ys
    → ((k : ℕ) (x : A) (y : B) → slice_get xs k ≡ Some x → slice_get ys k ≡ Some y → R x y → S x y) → AllZip S xs ys
zip-with R S [] [] z f = tt
zip-with R S [] (y ∷ ys) z f = absurd z
zip-with R S (x ∷ xs) [] z f = absurd z
zip-with R S (x ∷ xs) (y ∷ ys) z f = (f 0 x y refl refl z.0, zip-with R S xs ys z.1 (λ k a b g h r. f (suc k) a b g h r))

-- the pair at one place
pub record Paired {A B : Type 0} (R : A → B → Type 0) (ys : List B) (k : ℕ) (x : A) : Type 0 where
  pub other : B
  pub there : slice_get ys k ≡ Some other
  pub pair : R x other

pub paired : {A B : Type 0} (R : A → B → Type 0) (xs : List A) (ys : List B) (k : ℕ) (x : A) → AllZip R xs ys → slice_get xs k ≡ Some x → Paired R ys k x
paired R [] ys k x z g = absurd cc
paired R (a ∷ xs) [] k x z g = absurd z
paired R (a ∷ xs) (b ∷ ys) zero x z g = let same : a ≡ x = cc in record { other = b; there = refl; pair = subst (λ y. R y b) same z.0 }
paired R (a ∷ xs) (b ∷ ys) (suc k) x z g =
    let rest = paired R xs ys k x z.1 g in
    record { other = rest.other; there = rest.there; pair = rest.pair }

-- the pairs up to and with one more, where the second list was pushed to
pub zip-pushed : {A B : Type 0} (R : A → B → Type 0) (xs : List A) (ys news : List B) (i : ℕ) (x : A) (y : B) → i < length xs → x ≡ get_or xs i x → AllZip R (take i xs) ys → R x y → news ≡ ys ++ y ∷ []
    → AllZip R (take (i + 1) xs) news
zip-pushed R xs ys news i x y l e z r n =
    subst (λ us. AllZip R us news) (ap (λ u. take i xs ++ u ∷ []) e ∙ sym (take_more xs i x l)) (subst (AllZip R (take i xs ++ x ∷ [])) (sym n) (zip-more R (take i xs) ys x y z r))
