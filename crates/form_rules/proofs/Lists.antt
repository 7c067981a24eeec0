-- Lists, and tests on them.
use Rattle.std.specs.Prelude.{◌≡◌, ℕ, ◌==◌, ◌&&◌, ◌||◌, Bool, true, false, List, [], ◌∷◌, ◌++◌, map, flat_map, filter, cond, length, take, refl}
use Rattle.std.specs.List.{list_any}
use Rattle.std.proofs.Common.{sym, ◌∙◌, ap}
use Rattle.std.proofs.Math.Bool.{or_assoc}
use Rattle.std.proofs.lemmas.Bool.{eqb-true}
use Rattle.std.proofs.lemmas.List.Folds.{list_any-append}
use Rattle.cocoon_num.specs.Lists.{has_number}

abbrev pub either : Bool → Bool → Bool
either a b = a || b

-- true and false are not one
pub apart : {A : Type 0} (b : Bool) → b ≡ true → b ≡ false → A
apart b t f = absurd (let e : true ≡ false = sym t ∙ f in cc)

pub crossed : (a b c d : Bool) → ((a || b) || (c || d)) ≡ ((a || c) || (b || d))
crossed true b c d = refl
crossed false true true d = refl
crossed false false true d = refl
crossed false true false d = refl
crossed false false false d = refl

pub swapped : (a b : Bool) → (a && b) ≡ (b && a)
swapped true true = refl
swapped true false = refl
swapped false true = refl
swapped false false = refl

pub all_three : (a b c : Bool) → (a && (b && c)) ≡ (a && b && c)
all_three true b c = refl
all_three false b c = refl

-- ---- lists

pub take_front : {A : Type 0} (xs more : List A) → take (length xs) (xs ++ more) ≡ xs
take_front [] more = refl
take_front {A} (x ∷ xs) more = ap (λ (ys : List A). x ∷ ys) (take_front xs more)

pub map_append : {A B : Type 0} (f : A → B) (xs ys : List A) → map f (xs ++ ys) ≡ map f xs ++ map f ys
map_append f [] ys = refl
map_append {A} {B} f (x ∷ xs) ys = ap (λ (zs : List B). f x ∷ zs) (map_append f xs ys)

pub any_map : {A B : Type 0} (u : B → Bool) (f : A → B) (xs : List A) → list_any u (map f xs) ≡ list_any (λ x. u (f x)) xs
any_map u f [] = refl
any_map u f (x ∷ xs) = ap (either (u (f x))) (any_map u f xs)

pub any_flat : {A B : Type 0} (u : B → Bool) (f : A → List B) (xs : List A) → list_any u (flat_map f xs) ≡ list_any (λ x. list_any u (f x)) xs
any_flat u f [] = refl
any_flat u f (x ∷ xs) = list_any-append u (f x) (flat_map f xs) ∙ ap (either (list_any u (f x))) (any_flat u f xs)

any_kept : {A : Type 0} (u : A → Bool) (b : Bool) (x : A) (xs : List A) → list_any u (cond b (x ∷ xs) xs) ≡ ((b && u x) || list_any u xs)
any_kept u true x xs = refl
any_kept u false x xs = refl

pub any_filter : {A : Type 0} (u f : A → Bool) (xs : List A) → list_any u (filter f xs) ≡ list_any (λ x. f x && u x) xs
any_filter u f [] = refl
any_filter u f (x ∷ xs) = any_kept u (f x) x (filter f xs) ∙ ap (either (f x && u x)) (any_filter u f xs)

-- ---- numbers in lists

pub number_append : (c : ℕ) (ms ns : List ℕ) → has_number c (ms ++ ns) ≡ (has_number c ms || has_number c ns)
number_append c [] ns = refl
number_append c (m ∷ ms) ns = ap (either (c == m)) (number_append c ms ns) ∙ sym (or_assoc (c == m) (has_number c ms) (has_number c ns))

pub number_flat : {A : Type 0} (c : ℕ) (f : A → List ℕ) (xs : List A) → has_number c (flat_map f xs) ≡ list_any (λ x. has_number c (f x)) xs
number_flat c f [] = refl
number_flat c f (x ∷ xs) = number_append c (f x) (flat_map f xs) ∙ ap (either (has_number c (f x))) (number_flat c f xs)

-- of a number that passes a test, or does not
number_kept : (c m : ℕ) (f : ℕ → Bool) (ms kept : List ℕ) (a b p n : Bool) → f m ≡ a → (c == m) ≡ b → f c ≡ p → has_number c kept ≡ (p && n) → has_number c (cond a (m ∷ kept) kept) ≡ (p && (b || n))
number_kept c m f ms kept true true true n h e is ih = ap (λ x. x || has_number c kept) e
number_kept c m f ms kept true true false n h e is ih = apart (f m) h (ap f (sym (eqb-true c m e)) ∙ is)
number_kept c m f ms kept true false p n h e is ih = ap (λ x. x || has_number c kept) e ∙ ih
number_kept c m f ms kept false true true n h e is ih = apart (f m) (ap f (sym (eqb-true c m e)) ∙ is) h
number_kept c m f ms kept false true false n h e is ih = ih
number_kept c m f ms kept false false p n h e is ih = ih

none_of : (b : Bool) → false ≡ (b && false)
none_of true = refl
none_of false = refl

pub number_filter : (c : ℕ) (f : ℕ → Bool) (ms : List ℕ) → has_number c (filter f ms) ≡ (f c && has_number c ms)
number_filter c f [] = none_of (f c)
number_filter c f (m ∷ ms) = number_kept c m f ms (filter f ms) (f m) (c == m) (f c) (has_number c ms) refl refl refl (number_filter c f ms)
