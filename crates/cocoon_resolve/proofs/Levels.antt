-- Declarations level by level, and lists that grow by one.
use Rattle.std.proofs.Common.{◌≡◌, ◌⊎◌, inl, inr, arith, subst, length-append, ℕ, zero, suc, ◌+◌, ◌<◌, ◌≤◌, List, [], ◌∷◌, ◌++◌, map, take, length, get_or, slice_get, Option, Some, refl, sym, ap, ap₂, ◌∙◌, append_assoc}
use Rattle.std.specs.Prelude.{flat_map, filter_map}
use Rattle.std.proofs.Math.Nat.{eq-or-lt_of_le}
use Rattle.std.proofs.lemmas.List.{map_more, take-map}
use Rattle.std.proofs.lemmas.List.Concat.{flat_map-append}
use Rattle.std.proofs.lemmas.List.Elements.{filter_map-append}
use Rattle.cocoon_num.specs.Tree.{AssumeDecl, Refine, Design}
use Rattle.cocoon_types.specs.Design.{decls_to}
use Rattle.cocoon_types.specs.Limits.{as_assumption}
use Rattle.cocoon_resolve.specs.Readers.{assumptions_to}
use Rattle.cocoon_resolve.specs.Kept.{HoldsTo}

-- what is picked of one item more
pub picked-more : {A B C : Type 0} (pick : B → Option C) (f : A → B) (xs : List A) (i : ℕ) (x : A) → i < length xs → x ≡ get_or xs i x
    → filter_map pick (map f (take (i + 1) xs)) ≡ filter_map pick (map f (take i xs)) ++ filter_map pick (f x ∷ [])
picked-more pick f xs i x h e =
    ap (filter_map pick) (map_more f xs i x h ∙ ap (λ y. map f (take i xs) ++ f y ∷ []) (sym e)) ∙ filter_map-append pick (map f (take i xs)) (f x ∷ [])

pub nil-right : {A : Type 0} (xs : List A) → xs ++ [] ≡ xs
nil-right [] = refl
nil-right (x ∷ xs) = ap (λ l. x ∷ l) (nil-right xs)

pub blocks-more : {A : Type 0} (g : A → Refine) (xs : List A) (i : ℕ) (x : A) → i < length xs → x ≡ get_or xs i x
    → flat_map (λ (b : Refine). b.decls) (take (i + 1) (map g xs)) ≡ flat_map (λ (b : Refine). b.decls) (take i (map g xs)) ++ (g x).decls
blocks-more g xs i x h e =
    ap (flat_map (λ (b : Refine). b.decls)) (take-map g (i + 1) xs ∙ map_more g xs i x h ∙ ap₂ (λ l y. l ++ g y ∷ []) (sym (take-map g i xs)) (sym e))
    ∙ flat_map-append (λ (b : Refine). b.decls) (take i (map g xs)) (g x ∷ [])
    ∙ ap (λ l. flat_map (λ (b : Refine). b.decls) (take i (map g xs)) ++ l) (nil-right (g x).decls)

-- the assumptions of one level more
pub assumptions-more : {A : Type 0} (d : Design) (g : A → Refine) (xs : List A) (i : ℕ) (x : A) → d.refines ≡ map g xs → i < length xs → x ≡ get_or xs i x
    → assumptions_to (i + 1) d ≡ assumptions_to i d ++ filter_map as_assumption (g x).decls
assumptions-more d g xs i x s h e =
    ap (λ l. filter_map as_assumption (d.decls ++ l))
    (ap (λ bs. flat_map (λ (b : Refine). b.decls) (take (i + 1) bs)) s ∙ blocks-more g xs i x h e ∙ ap (λ bs. flat_map (λ (b : Refine). b.decls) (take i bs) ++ (g x).decls) (sym s))
    ∙ ap (filter_map as_assumption) (sym (append_assoc d.decls (flat_map (λ (b : Refine). b.decls) (take i d.refines)) (g x).decls))
    ∙ filter_map-append as_assumption (decls_to i d) (g x).decls

pub first-level : (d : Design) → assumptions_to 0 d ≡ filter_map as_assumption d.decls
first-level d = ap (filter_map as_assumption) (nil-right d.decls)

-- ---- lists that grow by one

pub get-before : {A : Type 0} (xs : List A) (x : A) (i : ℕ) → i < length xs → slice_get (xs ++ x ∷ []) i ≡ slice_get xs i
get-before [] x i h = absurd (omega arith)
get-before (y ∷ ys) x zero h = refl
get-before (y ∷ ys) x (suc i) h = get-before ys x i (omega arith)

pub get-last : {A : Type 0} (xs : List A) (x : A) → slice_get (xs ++ x ∷ []) (length xs) ≡ Some x
get-last [] x = refl
get-last (y ∷ ys) x = get-last ys x

-- one level more
pub holds-more : (n : ℕ) (d : Design) (held more : List AssumeDecl) (counts : List ℕ) → HoldsTo n d held counts → more ≡ assumptions_to (n + 1) d
    → HoldsTo (n + 1) d more (counts ++ length more ∷ [])
holds-more n d held more counts h e = record {
  assumptions = e;
  size = length-append counts (length more ∷ []) ∙ ap (λ m. m + 1) h.size;
  each = λ level l. at level (eq-or-lt_of_le l);
}
  where
    at : (level : ℕ) → (level ≡ n + 1) ⊎ (level < n + 1) → slice_get (counts ++ length more ∷ []) level ≡ Some (length (assumptions_to level d))
    at level (inr l) = get-before counts (length more) level (subst (λ m. level < m) (sym h.size) l) ∙ h.each level (omega arith)
    at level (inl same) = ap (slice_get (counts ++ length more ∷ [])) (same ∙ sym h.size) ∙ get-last counts (length more) ∙ ap (λ xs. Some (length xs)) e ∙ ap (λ m. Some (length (assumptions_to m d))) (sym same)

-- level 0 alone
pub holds-first : (d : Design) (held : List AssumeDecl) (counts : List ℕ) → held ≡ filter_map as_assumption d.decls → counts ≡ length held ∷ [] → HoldsTo 0 d held counts
holds-first d held counts e k = record {
  assumptions = e ∙ sym (first-level d);
  size = ap length k;
  each = λ level l. ap₂ slice_get k (zero-of level l) ∙ ap (λ xs. Some (length xs)) (e ∙ sym (first-level d)) ∙ ap (λ m. Some (length (assumptions_to m d))) (sym (zero-of level l));
}
  where
    zero-of : (level : ℕ) → level ≤ 0 → level ≡ 0
    zero-of level l = omega arith
