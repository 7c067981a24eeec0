-- Widths of fields, one by one.
use Rattle.std.proofs.Common.{◌≡◌, ℕ, zero, suc, ◌+◌, ◌<◌, ◌≤◌, List, [], ◌∷◌, ◌++◌, map, take, length, get_or, refl, sym, ap, subst, ◌∙◌, add-one, arith}
use Rattle.std.proofs.lemmas.List.{map_more}
use Rattle.std.proofs.lemmas.List.Concat.{flat_map-append}
use Rattle.cocoon_num.specs.Packets.{total}
use Rattle.cocoon_num.specs.Tree.{Param, HeaderDecl}
use Rattle.cocoon_types.specs.Design.{widths_of}
use Rattle.cocoon_resolve.specs.Kept.{AreDeclared}
use Rattle.cocoon_resolve.specs.Readers.{all_widths}

pub declared-at : {A : Type 0} (f : A → Param) (xs : List A) (i : ℕ) (x : A) → AreDeclared (widths_of (map f xs)) → i < length xs → x ≡ get_or xs i x → (f x).width ≤ 64
declared-at f [] i x h l e = absurd (omega arith)
declared-at f (y ∷ ys) zero x h l e = subst (λ z. (f z).width ≤ 64) (sym e) h.0
declared-at f (y ∷ ys) (suc i) x h l e = declared-at f ys i x h.1 (omega arith) e

first-part : (xs ys : List ℕ) → AreDeclared (xs ++ ys) → AreDeclared xs
first-part [] ys h = tt
first-part (x ∷ xs) ys h = (h.0, first-part xs ys h.1)

second-part : (xs ys : List ℕ) → AreDeclared (xs ++ ys) → AreDeclared ys
second-part [] ys h = h
second-part (x ∷ xs) ys h = second-part xs ys h.1

pub declared-in : {A : Type 0} (f : A → HeaderDecl) (xs : List A) (i : ℕ) (x : A) → AreDeclared (all_widths (map f xs)) → i < length xs → x ≡ get_or xs i x → AreDeclared (widths_of (f x).fields)
declared-in f [] i x h l e = absurd (omega arith)
declared-in f (y ∷ ys) zero x h l e = subst (λ z. AreDeclared (widths_of (f z).fields)) (sym e) (first-part (widths_of (f y).fields) (all_widths (map f ys)) h)
declared-in f (y ∷ ys) (suc i) x h l e = declared-in f ys i x (second-part (widths_of (f y).fields) (all_widths (map f ys)) h) (omega arith) e

nil-right : {A : Type 0} (xs : List A) → xs ++ [] ≡ xs
nil-right [] = refl
nil-right (x ∷ xs) = ap (λ l. x ∷ l) (nil-right xs)

pub widths-more : {A : Type 0} (f : A → HeaderDecl) (xs : List A) (i : ℕ) (x : A) → i < length xs → x ≡ get_or xs i x
    → all_widths (map f (take (i + 1) xs)) ≡ all_widths (map f (take i xs)) ++ widths_of (f x).fields
widths-more f xs i x l e =
    ap all_widths (map_more f xs i x l ∙ ap (λ y. map f (take i xs) ++ f y ∷ []) (sym e))
    ∙ flat_map-append (λ (h : HeaderDecl). widths_of h.fields) (map f (take i xs)) (f x ∷ [])
    ∙ ap (λ ws. all_widths (map f (take i xs)) ++ ws) (nil-right (widths_of (f x).fields))

total-next : (ws : List ℕ) (i d : ℕ) → i < length ws → total (take (suc i) ws) ≡ total (take i ws) + get_or ws i d
total-next [] i d l = absurd (omega arith)
total-next (w ∷ ws) zero d l = omega arith
total-next (w ∷ ws) (suc i) d l = ap (λ n. w + n) (total-next ws i d (omega arith)) ∙ (let x : w + (total (take i ws) + get_or ws i d) ≡ w + total (take i ws) + get_or ws i d = omega arith in x)

pub total-more : (ws : List ℕ) (i d : ℕ) → i < length ws → total (take (i + 1) ws) ≡ total (take i ws) + get_or ws i d
total-more ws i d l = ap (λ m. total (take m ws)) (add-one i) ∙ total-next ws i d l
