-- Depth goes token by token. `text_laws` and p4_parse cite what it says of the first tokens of a text.
use Rattle.std.specs.Prelude.{◌≡◌, ℕ, zero, suc, ◌+◌, ◌≤◌, ◌<◌, ◌&&◌, Bool, true, false, nat_le, IsTrue, List, [], ◌∷◌, ◌++◌, length, map, take, slice_get, Some, ◌⊎◌, refl}
use Rattle.std.proofs.Common.{sym, ◌∙◌, ap, add-one, get_or, arith}
use Rattle.std.proofs.lemmas.List.{append_assoc, append-nil}
use Rattle.std.proofs.lemmas.Bool.{and_parts, le-leb}
use Rattle.std.proofs.lemmas.Option.{slice_get-get_or}
use Rattle.std.proofs.lemmas.Bool.Decides.{nat_tests}
use Rattle.cocoon_num.specs.Tokens.{Bounds, Kind, none_deep, brackets_after, operators_after, is_shallow}

-- these tokens are not deep, and after them so many brackets are open, and so many operators have come
pub record Shallow (bounds : Bounds) (ks : List Kind) (brackets operators : ℕ) : Type 0 where
  pub after : (rest : List Kind) → none_deep bounds 0 0 (ks ++ rest) ≡ none_deep bounds brackets operators rest

pub is_shallow_yet : (bounds : Bounds) (ks : List Kind) (b o : ℕ) → Shallow bounds ks b o → IsTrue (is_shallow bounds ks)
is_shallow_yet bounds ks b o s = let e : none_deep bounds 0 0 ks ≡ true = ap (none_deep bounds 0 0) (sym (append-nil ks)) ∙ s.after [] in search e

both_small : (m n x y : ℕ) (r : Bool) → x ≤ m → y ≤ n → (nat_le x m && nat_le y n && r) ≡ r
both_small m n x y r h l = rw (le-leb x m h, le-leb y n l) refl

one_too_large : (m n x y : ℕ) → (m < x) ⊎ (n < y) → (nat_le x m && nat_le y n && true) ≡ false
one_too_large m n x y h = grind (arith, nat_tests)

one_deep : (bounds : Bounds) (b o : ℕ) (k : Kind) (rest : List Kind) → brackets_after b k ≤ bounds.open_most → operators_after bounds.operators o k ≤ bounds.operators_most → none_deep bounds b o (k ∷ rest) ≡ none_deep bounds (brackets_after b k) (operators_after bounds.operators o k) rest
one_deep bounds b o k rest h l = both_small bounds.open_most bounds.operators_most (brackets_after b k) (operators_after bounds.operators o k) (none_deep bounds (brackets_after b k) (operators_after bounds.operators o k) rest) h l

pub one_shallow : (bounds : Bounds) (ks us : List Kind) (b o : ℕ) (k : Kind) → us ≡ ks ++ k ∷ [] → Shallow bounds ks b o → brackets_after b k ≤ bounds.open_most → operators_after bounds.operators o k ≤ bounds.operators_most → Shallow bounds us (brackets_after b k) (operators_after bounds.operators o k)
one_shallow bounds ks us b o k e s h l = record { after = λ rest. ap (none_deep bounds 0 0) (ap (λ z. z ++ rest) e ∙ append_assoc ks (k ∷ []) rest) ∙ s.after (k ∷ rest) ∙ one_deep bounds b o k rest h l }

pub one_is_deep : (bounds : Bounds) (ks us : List Kind) (b o : ℕ) (k : Kind) → us ≡ ks ++ k ∷ [] → Shallow bounds ks b o → (bounds.open_most < brackets_after b k) ⊎ (bounds.operators_most < operators_after bounds.operators o k) → is_shallow bounds us ≡ false
one_is_deep bounds ks us b o k e s h = ap (none_deep bounds 0 0) e ∙ s.after (k ∷ []) ∙ one_too_large bounds.open_most bounds.operators_most (brackets_after b k) (operators_after bounds.operators o k) h

-- ---- the first of tokens that are not deep

pub is_true : (b : Bool) → IsTrue b → b ≡ true
is_true true h = refl
is_true false h = h

as_true : (b : Bool) → b ≡ true → IsTrue b
as_true true e = refl
as_true false e = e

shallow_from : (bounds : Bounds) (ks : List Kind) (i b o : ℕ) → none_deep bounds b o ks ≡ true → none_deep bounds b o (take i ks) ≡ true
shallow_from bounds ks zero b o h = refl
shallow_from bounds [] (suc i) b o h = refl
shallow_from bounds (k ∷ ks) (suc i) b o h =
    let b' = brackets_after b k in
    let o' = operators_after bounds.operators o k in
    let p = and_parts (nat_le b' bounds.open_most && nat_le o' bounds.operators_most) (none_deep bounds b' o' ks) h in
    let q = and_parts (nat_le b' bounds.open_most) (nat_le o' bounds.operators_most) p.0 in
    rw (q.0, q.1) (shallow_from bounds ks i b' o' p.1)

pub shallow_prefix : (bounds : Bounds) (ks : List Kind) (i : ℕ) → IsTrue (is_shallow bounds ks) → IsTrue (is_shallow bounds (take i ks))
shallow_prefix bounds ks i h = as_true (is_shallow bounds (take i ks)) (shallow_from bounds ks i 0 0 (is_true (is_shallow bounds ks) h))

-- ---- one token further

taken_suc : {A B : Type 0} (f : A → B) (xs : List A) (i : ℕ) (x : A) → slice_get xs i ≡ Some x → take (suc i) (map f xs) ≡ take i (map f xs) ++ f x ∷ []
taken_suc f [] i x e = absurd cc
taken_suc f (y ∷ ys) zero x e = let p : y ≡ x = cc in ap (λ z. f z ∷ []) p
taken_suc f (y ∷ ys) (suc i) x e = ap (λ z. f y ∷ z) (taken_suc f ys i x e)

pub taken_one : {A B : Type 0} (f : A → B) (xs : List A) (i : ℕ) (x : A) → i < length xs → x ≡ get_or xs i x → take (i + 1) (map f xs) ≡ take i (map f xs) ++ f x ∷ []
taken_one f xs i x h e = rw add-one (taken_suc f xs i x (slice_get-get_or xs i x h ∙ ap Some (sym e)))
