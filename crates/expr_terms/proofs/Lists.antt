-- Lists from an index on, and the terms that loops over parameters and headers look for there.
use Rattle.std.proofs.Common.{◌≡◌, ℕ, suc, ◌+◌, ◌<◌, ◌≤◌, List, [], ◌∷◌, map, min, drop, length, get_or, false, if◌then◌else◌, refl, sym, ap, ◌∙◌, arith}
use Rattle.std.proofs.Math.Seq.{drop-cons}
use Rattle.std.proofs.lemmas.List.{drop-map, length-drop}
use Rattle.std.proofs.lemmas.List.{length-map}
use Rattle.cocoon_num.specs.Names.{same_name}
use Rattle.cocoon_num.specs.Tree.{Param, HeaderDecl}
use Rattle.bv_terms.specs.TermTrees.{Term}
use Rattle.obligation_laws.specs.TermOf.{bind_terms, field_term, no_term, term_in}

pub from : {A : Type 0} (xs : List A) (i : ℕ) (x : A) → i < length xs → x ≡ get_or xs i x → drop i xs ≡ x ∷ drop (i + 1) xs
from xs i x l e = let one : suc i ≡ i + 1 = omega arith in drop-cons xs i x l ∙ (λ j. sym e j ∷ drop (one j) xs)

pub from_any : {A : Type 0} (xs : List A) (i : ℕ) (d : A) → i < length xs → drop i xs ≡ get_or xs i d ∷ drop (i + 1) xs
from_any xs i d l = let one : suc i ≡ i + 1 = omega arith in drop-cons xs i d l ∙ (λ j. get_or xs i d ∷ drop (one j) xs)

-- ---- fields

pub field_past : {A : Type 0} (g : A → Param) (h : ℕ → Term) (ps : List A) (ids : List ℕ) (i : ℕ) (p : A) (f : List ℕ) → i < length ps → i < length ids → p ≡ get_or ps i p → same_name f (g p).name.text ≡ false
    → term_in (map g (drop i ps)) (map h (drop i ids)) f ≡ term_in (map g (drop (i + 1) ps)) (map h (drop (i + 1) ids)) f
field_past g h ps ids i p f l m e other =
    (λ j. term_in (map g (from ps i p l e j)) (map h (from_any ids i 0 m j)) f)
    ∙ ap (λ b. if b then h (get_or ids i 0) else term_in (map g (drop (i + 1) ps)) (map h (drop (i + 1) ids)) f) other

none_in : (ps : List Param) (ts : List Term) (f : List ℕ) → min (length ps) (length ts) ≡ 0 → term_in ps ts f ≡ no_term
none_in [] ts f e = refl
none_in (p ∷ ps) [] f e = refl
none_in (p ∷ ps) (t ∷ ts) f e = absurd (omega (arith, e))

none_bound : (ps : List Param) (ts : List Term) → min (length ps) (length ts) ≡ 0 → bind_terms ps ts ≡ []
none_bound [] ts e = refl
none_bound (p ∷ ps) [] e = refl
none_bound (p ∷ ps) (t ∷ ts) e = absurd (omega (arith, e))

none_left : {A B C D : Type 0} (g : A → C) (h : B → D) (xs : List A) (ys : List B) (i : ℕ) → min (length xs) (length ys) ≤ i → min (length (map g (drop i xs))) (length (map h (drop i ys))) ≡ 0
none_left g h xs ys i l =
    let a = length-map (drop i xs) g in
    let b = length-map (drop i ys) h in
    let c = length-drop i xs in
    let d = length-drop i ys in
    omega (arith, a, b, c, d, l)

pub field_end : {A : Type 0} (g : A → Param) (h : ℕ → Term) (ps : List A) (ids : List ℕ) (i : ℕ) (f : List ℕ) → min (length ps) (length ids) ≤ i → term_in (map g (drop i ps)) (map h (drop i ids)) f ≡ no_term
field_end g h ps ids i f l = none_in (map g (drop i ps)) (map h (drop i ids)) f (none_left g h ps ids i l)

pub bound_end : {A : Type 0} (g : A → Param) (h : ℕ → Term) (ps : List A) (ids : List ℕ) (i : ℕ) → min (length ps) (length ids) ≤ i → bind_terms (map g (drop i ps)) (map h (drop i ids)) ≡ []
bound_end g h ps ids i l = none_bound (map g (drop i ps)) (map h (drop i ids)) (none_left g h ps ids i l)

pub header_past : {A : Type 0} (g : A → HeaderDecl) (h : ℕ → Term) (ds : List A) (rest : List ℕ) (i : ℕ) (x : A) (n f : List ℕ) → i < length ds → x ≡ get_or ds i x → same_name n (g x).name.text ≡ false
    → field_term (map g (drop i ds)) (map h rest) n f ≡ field_term (map g (drop (i + 1) ds)) (map h (drop (length (g x).fields) rest)) n f
header_past g h ds rest i x n f l e other =
    (λ j. field_term (map g (from ds i x l e j)) (map h rest) n f)
    ∙ ap (λ b. if b then term_in (g x).fields (map h rest) f else field_term (map g (drop (i + 1) ds)) (drop (length (g x).fields) (map h rest)) n f) other
    ∙ ap (λ ts. field_term (map g (drop (i + 1) ds)) ts n f) (drop-map h (length (g x).fields) rest)
