-- Tuples, one after the other.
use Rattle.std.proofs.Common.{◌≡◌, ℕ, zero, suc, ◌+◌, ◌<◌, ◌≤◌, ◌⊎◌, ◌||◌, Vec, List, [], ◌∷◌, ◌++◌, drop, filter_map, fold, get_or, is_some, length, map, option_map, slice_index, take, Bool, true, false, Option, Some, None, if◌then◌else◌, inl, inr, refl, ap, sym, ◌∙◌, subst, arith}
use Rattle.std.specs.List.{AllByRecursion, cons_option, list_any}
use Rattle.std.proofs.lemmas.Grind.{flat_map-append}
use Rattle.std.proofs.lemmas.List.{append-nil, length-map, map_more, take-append-drop, take_more}
use Rattle.std.proofs.lemmas.List.Elements.{filter_map-append}
use Rattle.std.specs.declared.alloc.Global.{Global}
use Rattle.cocoon_num.specs.Names.{same_name}
use Rattle.bv_terms.specs.declared.node.Node.{Node}
use Rattle.numbering.specs.KeyPlaces.{first_place}
use Rattle.query_laws.specs.Patterns.{Pattern}
use Rattle.query_laws.specs.Tuples.{most_instances}
use Rattle.pattern_instances.specs.Found.{HasTuples, all_found, distinct_ids, found_pattern, tuple_found, tuple_ids, with_ids}
use Rattle.pattern_instances.specs.declared.patterns.Pattern.{Pattern as Found}
use Rattle.pattern_instances.specs.declared.tuples.Tuples.{Tuples}
use Rattle.pattern_instances.proofs.Firsts.{distinct-grow, enough, fold-both, short}

-- ---- one tuple

some-later : (b : Bool) (o : Option ℕ) → is_some (if b then Some 0 else option_map suc o) ≡ (if b then true else is_some o)
some-later true o = refl
some-later false None = refl
some-later false (Some n) = refl

as-or : (b c : Bool) → (b || c) ≡ (if b then true else c)
as-or true c = refl
as-or false c = refl

-- a key is among others if it has a place
among : (x : List ℕ) (ks : List (List ℕ)) → list_any (same_name x) ks ≡ is_some (first_place x ks)
among x [] = refl
among x (k ∷ ks) = as-or (same_name x k) (list_any (same_name x) ks) ∙ ap (λ c. if same_name x k then true else c) (among x ks) ∙ sym (some-later (same_name x k) (first_place x ks))

chosen : (b : Bool) (xs ys : List (List ℕ)) → b ≡ false → (if b then xs else ys) ≡ ys
chosen true xs ys e = absurd (cc)
chosen false xs ys e = refl

kept : (b : Bool) (xs ys : List (List ℕ)) → b ≡ true → (if b then xs else ys) ≡ xs
kept true xs ys e = refl
kept false xs ys e = absurd (cc)

pub with-new : (tuples : List (List ℕ)) (x : List ℕ) (o : Option ℕ) → o ≡ first_place x tuples → is_some o ≡ false → with_ids tuples x ≡ tuples ++ x ∷ []
with-new tuples x o e none = chosen (list_any (same_name x) tuples) tuples (tuples ++ x ∷ []) (among x tuples ∙ ap is_some (sym e) ∙ none)

pub with-old : (tuples : List (List ℕ)) (x : List ℕ) (o : Option ℕ) → o ≡ first_place x tuples → is_some o ≡ true → with_ids tuples x ≡ tuples
with-old tuples x o e some = kept (list_any (same_name x) tuples) tuples (tuples ++ x ∷ []) (among x tuples ∙ ap is_some (sym e) ∙ some)

-- ---- what one application gives

pub pattern-at : (P : Pattern → Type 0) (ps : List Found) → AllByRecursion P (map found_pattern ps) → (i : ℕ) (p : Found) → i < length ps → p ≡ get_or ps i p → P (found_pattern p)
pattern-at P [] h i p l e = absurd (omega (arith, l))
pattern-at P (q ∷ ps) h zero p l e = subst (λ x. P (found_pattern x)) (sym e) h.0
pattern-at P (q ∷ ps) h (suc i) p l e = pattern-at P ps h.1 i p (omega (arith, l)) e

abbrev pub tuples_after : List (List ℕ) → Option (List ℕ) → List (List ℕ)
tuples_after tuples None = tuples
tuples_after tuples (Some x) = with_ids tuples x

folded : (o : Option (List ℕ)) (tuples : List (List ℕ)) → fold with_ids tuples (cons_option o []) ≡ tuples_after tuples o
folded None tuples = refl
folded (Some x) tuples = refl

pub next-tuple : (F : Pattern → Option (List ℕ)) (ps : List Found) (i : ℕ) (p : Found) → i < length ps → p ≡ get_or ps i p → (tuples : List (List ℕ)) (o : Option (List ℕ)) → o ≡ F (found_pattern p)
    → fold with_ids tuples (filter_map F (map found_pattern (take (i + 1) ps))) ≡ tuples_after (fold with_ids tuples (filter_map F (map found_pattern (take i ps)))) o
next-tuple F ps i p l is tuples o e =
    let before = map found_pattern (take i ps) in
    let more : map found_pattern (take (i + 1) ps) ≡ before ++ found_pattern p ∷ [] = map_more found_pattern ps i p l ∙ ap (λ y. before ++ found_pattern y ∷ []) (sym is) in
    ap (λ qs. fold with_ids tuples (filter_map F qs)) more
    ∙ ap (fold with_ids tuples) (filter_map-append F before (found_pattern p ∷ []))
    ∙ fold-both with_ids tuples (filter_map F before) (filter_map F (found_pattern p ∷ []))
    ∙ ap (λ x. fold with_ids (fold with_ids tuples (filter_map F before)) (cons_option x [])) (sym e)
    ∙ folded o (fold with_ids tuples (filter_map F before))

-- ---- what all give

pub next-application : (nodes : List Node) (ps : List Pattern) (ids : List ℕ) (i : ℕ) → i < length ids
    → distinct_ids (all_found nodes ps (take (i + 1) ids)) ≡ fold with_ids (distinct_ids (all_found nodes ps (take i ids))) (filter_map (tuple_found nodes (slice_index ids i)) ps)
next-application nodes ps ids i l =
    let f = λ (id : ℕ). filter_map (tuple_found nodes id) ps in
    ap (λ xs. distinct_ids (all_found nodes ps xs)) (take_more ids i 0 l)
    ∙ ap distinct_ids (flat_map-append f (take i ids) (slice_index ids i ∷ []) ∙ ap (λ xs. all_found nodes ps (take i ids) ++ xs) (append-nil (f (slice_index ids i))))
    ∙ fold-both with_ids [] (all_found nodes ps (take i ids)) (f (slice_index ids i))

-- the first ones are found, when all applications were looked at or there are enough
pub first-found : (nodes : List Node) (ps : List Pattern) (ids : List ℕ) (t : Tuples) (i : ℕ) → HasTuples t (distinct_ids (all_found nodes ps (take i ids)))
    → (length ids ≤ i) ⊎ (most_instances ≤ length t.tuples.items) → take most_instances (tuple_ids t.tuples.items) ≡ take most_instances (distinct_ids (all_found nodes ps ids))
first-found nodes ps ids t i h (inl l) = ap (take most_instances) h.are ∙ ap (λ xs. take most_instances (distinct_ids (all_found nodes ps xs))) (short i ids l)
first-found nodes ps ids t i h (inr l) =
    let so_far = distinct_ids (all_found nodes ps (take i ids)) in
    let rest = all_found nodes ps (drop i ids) in
    let grown = distinct-grow so_far rest in
    let all : distinct_ids (all_found nodes ps ids) ≡ so_far ++ grown.0 =
    ap (λ xs. distinct_ids (all_found nodes ps xs)) (sym (take-append-drop i ids))
    ∙ ap distinct_ids (flat_map-append (λ (id : ℕ). filter_map (tuple_found nodes id) ps) (take i ids) (drop i ids))
    ∙ fold-both with_ids [] (all_found nodes ps (take i ids)) rest ∙ grown.1 in
    let many : most_instances ≤ length so_far = subst (λ n. most_instances ≤ n) (sym (length-map t.tuples.items (λ (v : Vec ℕ Global). v.items)) ∙ ap length h.are) l in
    ap (take most_instances) h.are ∙ sym (enough most_instances so_far grown.0 many) ∙ ap (take most_instances) (sym all)
