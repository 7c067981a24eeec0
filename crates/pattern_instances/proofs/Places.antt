-- Places of inputs among arguments, and patterns, one by one.
use Rattle.std.proofs.Common.{◌≡◌, ℕ, zero, suc, ◌+◌, ◌-◌, ◌<◌, ◌==◌, List, [], ◌∷◌, ◌++◌, All, get_or, length, map, option_map, slice_index, take, Bool, true, false, Option, Some, None, if◌then◌else◌, inl, inr, refl, ap, sym, ◌∙◌, subst, arith}
use Rattle.std.specs.Prelude.{filter_map, option_and_then, slice_get}
use Rattle.std.specs.List.{cons_option}
use Rattle.std.proofs.lemmas.Bool.{cases_Bool, cond-false, cond-true, eq-eqb, eqb-true}
use Rattle.std.proofs.lemmas.List.{append-nil, append_assoc, map-append, take_more}
use Rattle.std.proofs.lemmas.List.Elements.{filter_map-append}
use Rattle.bv_terms.specs.declared.node.Node.{Node}
use Rattle.bv_terms.specs.declared.node.Node.TheVariants.{Apply}
use Rattle.bv_terms.specs.Arenas.{IsArena, args_of, made_of, parts}
use Rattle.bv_terms.specs.TermTrees.{Term, Args, apply}
use Rattle.expr_terms.specs.Variables.{AreThere}
use Rattle.query_laws.specs.Patterns.{Pattern, is_input, pattern_of, place_of, places_from}

-- ---- the first place

at-once : (b : Bool) (o : Option ℕ) → b ≡ true → (if b then Some 0 else o) ≡ Some 0
at-once true o e = refl
at-once false o e = absurd (cc)

later : (b : Bool) (o p : Option ℕ) → b ≡ false → o ≡ p → (if b then Some 0 else option_map suc o) ≡ option_map suc p
later true o p e h = absurd (cc)
later false o p e h = ap (option_map suc) h

pub first-place : (f : ℕ → Term) (i : ℕ) (args : List ℕ) (k : ℕ) → ((j : ℕ) → j < k → is_input i (f (get_or args j 0)) ≡ false) → k < length args → is_input i (f (get_or args k 0)) ≡ true
    → place_of i (args_of f args) ≡ Some k
first-place f i [] k before l is = absurd (omega (arith, l))
first-place f i (a ∷ args) zero before l is = at-once (is_input i (f a)) _ is
first-place f i (a ∷ args) (suc k) before l is =
    later (is_input i (f a)) (place_of i (args_of f args)) (Some k) (before 0 (omega arith))
    (first-place f i args k (λ j m. before (suc j) (omega (arith, m))) (omega (arith, l)) is)

pub no-place : (f : ℕ → Term) (i : ℕ) (args : List ℕ) → ((j : ℕ) → j < length args → is_input i (f (get_or args j 0)) ≡ false) → place_of i (args_of f args) ≡ None
no-place f i [] none = refl
no-place f i (a ∷ args) none =
    later (is_input i (f a)) (place_of i (args_of f args)) None (none 0 (omega arith)) (no-place f i args (λ j m. none (suc j) (omega (arith, m))))

-- ---- the places of several

-- the places from an input on, whose own is this one
pub one-place : (i n k : ℕ) (args : Args) (so_far : List ℕ) → i < n → place_of i args ≡ Some k
    → option_map (λ ks. so_far ++ ks) (places_from i (n - i) args) ≡ option_map (λ ks. (so_far ++ k ∷ []) ++ ks) (places_from (i + 1) (n - (i + 1)) args)
one-place i n k args so_far l is =
    let left : n - i ≡ suc (n - (i + 1)) = omega (arith, l) in
    let next : suc i ≡ i + 1 = omega arith in
    ap (λ m. option_map (λ ks. so_far ++ ks) (places_from i m args)) left
    ∙ ap (λ o. option_map (λ ks. so_far ++ ks) (option_and_then (λ k. option_map (λ ks. k ∷ ks) (places_from (suc i) (n - (i + 1)) args)) o)) is
    ∙ moved (places_from (suc i) (n - (i + 1)) args)
    ∙ ap (λ m. option_map (λ ks. (so_far ++ k ∷ []) ++ ks) (places_from m (n - (i + 1)) args)) next
  where
    moved : (o : Option (List ℕ)) → option_map (λ ks. so_far ++ ks) (option_map (λ ks. k ∷ ks) o) ≡ option_map (λ ks. (so_far ++ k ∷ []) ++ ks) o
    moved None = refl
    moved (Some ks) = ap Some (sym (append_assoc so_far (k ∷ []) ks))

-- where it has none, there are none
pub none-place : (i n : ℕ) (args : Args) (so_far : List ℕ) → i < n → place_of i args ≡ None → option_map (λ ks. so_far ++ ks) (places_from i (n - i) args) ≡ None
none-place i n args so_far l is =
    let left : n - i ≡ suc (n - (i + 1)) = omega (arith, l) in
    ap (λ m. option_map (λ ks. so_far ++ ks) (places_from i m args)) left
    ∙ ap (λ o. option_map (λ ks. so_far ++ ks) (option_and_then (λ k. option_map (λ ks. k ∷ ks) (places_from (suc i) (n - (i + 1)) args)) o)) is

-- ---- patterns

pub same-count : {A : Type 0} (n m : ℕ) (o : Option A) → n ≡ m → (if n == m then o else None) ≡ o
same-count n m o e = cond-true (n == m) o None (eq-eqb n m e)

pub other-count : {A : Type 0} (n m : ℕ) (o : Option A) → (n ≡ m → ⊥) → (if n == m then o else None) ≡ None
other-count n m o h = elim (cases_Bool (n == m)) [
  | inl e ↦ absurd (h (eqb-true n m e))
  | inr e ↦ cond-false (n == m) o None e
]

-- what follows the function and its arguments plays no part
pub same-pattern : (term : ℕ → Term) (count f w : ℕ) (args items : List ℕ) (node : Node) → node ≡ Apply f args w → items ≡ args
    → pattern_of count (apply f (args_of term items) 0) ≡ pattern_of count (made_of term node)
same-pattern term count f w args items node is same =
    ap (λ xs. pattern_of count (apply f (args_of term xs) 0)) same ∙ ap (λ n. pattern_of count (made_of term n)) (sym is)

parts-below : (nodes : List Node) (id : ℕ) → id < length nodes → (ps : List ℕ) → All (λ p. p < id) ps → All (λ p. p < length nodes) ps
parts-below nodes id l ps h = λ k d m. let e = h k d m in omega (arith, e, l)

pub parts-there : (nodes : List Node) → IsArena nodes → (id : ℕ) → id < length nodes → (node : Node) → slice_get nodes id ≡ Some node → (items : List ℕ) → parts node ≡ items → AreThere nodes items
parts-there nodes arena id l node is items same = subst (AreThere nodes) same (parts-below nodes id l (parts node) (arena.below id node is))

-- ---- one pattern more

abbrev pub found_after : List Pattern → Option Pattern → List Pattern
found_after ps None = ps
found_after ps (Some p) = ps ++ p ∷ []

pub next-patterns : {A : Type 0} (F : A → Option Pattern) (xs : List A) (x : A) (ps : List Pattern) (o : Option Pattern) → ps ≡ filter_map F xs → o ≡ F x → found_after ps o ≡ filter_map F (xs ++ x ∷ [])
next-patterns F xs x ps None e h = e ∙ sym (append-nil (filter_map F xs)) ∙ ap (λ o. filter_map F xs ++ cons_option o []) h ∙ sym (filter_map-append F xs (x ∷ []))
next-patterns F xs x ps (Some p) e h = ap (λ qs. qs ++ p ∷ []) e ∙ ap (λ o. filter_map F xs ++ cons_option o []) h ∙ sym (filter_map-append F xs (x ∷ []))

pub next-term : (f : ℕ → Term) (ids : List ℕ) (i : ℕ) → i < length ids → map f (take (i + 1) ids) ≡ map f (take i ids) ++ f (slice_index ids i) ∷ []
next-term f ids i l = ap (map f) (take_more ids i 0 l) ∙ map-append f (take i ids) (get_or ids i 0 ∷ [])
