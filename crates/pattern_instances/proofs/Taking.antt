-- The tuples of one assumption.
use Rattle.std.proofs.Common.{◌≡◌, ℕ, ◌<◌, ◌==◌, List, [], ◌∷◌, length, map, take, true, false, Vec, refl, ap, sym, ◌∙◌, subst, arith}
use Rattle.std.specs.List.{AllByRecursion, AllZip}
use Rattle.std.specs.declared.alloc.Global.{Global}
use Rattle.std.proofs.lemmas.Bool.{cond-false, cond-true}
use Rattle.std.proofs.lemmas.List.Elements.{All-nil, All-from_recursion, recursion_from_All}
use Rattle.cocoon_num.specs.Tree.{AssumeDecl, Param, Design}
use Rattle.cocoon_types.specs.Design.{widths_of}
use Rattle.bv_terms.specs.declared.node.Node.{Node}
use Rattle.bv_terms.specs.declared.node.Node.TheVariants.{Apply}
use Rattle.bv_terms.specs.Arenas.{IsArena, args_of, term_at}
use Rattle.bv_terms.specs.TermTrees.{apply}
use Rattle.bv_terms.specs.Walks.{AreNumbersOf, applications}
use Rattle.obligation_laws.specs.Shown.{HasWidth}
use Rattle.expr_terms.specs.Scopes.{Takes}
use Rattle.expr_terms.specs.Variables.{terms_at}
use Rattle.query_laws.specs.Patterns.{Pattern, patterns}
use Rattle.query_laws.specs.TupleFits as law
use Rattle.query_laws.specs.Tuples as spec
use Rattle.query_laws.specs.Tuples.{distinct_tuples, most_instances, tuples_of}
use Rattle.pattern_instances.specs.Found.{HasPlaces, HavePlaces, all_found, distinct_ids, tuple_ids}
use Rattle.pattern_instances.specs.Goals.{AreTuples}
use Rattle.pattern_instances.proofs.Firsts.{taken-all, taken-map}
use Rattle.pattern_instances.proofs.Ids.{Known, all-give, as-many, distinct-are}

-- ---- places

place-here : (nodes : List Node) → IsArena nodes → (id : ℕ) (p : Pattern) → law.HasPlaces (term_at nodes id) p → HasPlaces nodes id p
place-here nodes arena id p h args w is =
    let made : term_at nodes id ≡ apply p.function (args_of (term_at nodes) args) w = arena.made id (Apply p.function args w) is in
    subst (λ n. AllByRecursion (λ k. k < n) p.places) (as-many (term_at nodes) args) (subst (λ t. law.HasPlaces t p) made h refl)

places-here : (nodes : List Node) → IsArena nodes → (id : ℕ) (ps : List Pattern) → law.HasAllPlaces ps (term_at nodes id) → HavePlaces nodes ps id
places-here nodes arena id [] h = tt
places-here nodes arena id (p ∷ ps) h = (place-here nodes arena id p h.0, places-here nodes arena id ps h.1)

pub all-places : (nodes : List Node) → IsArena nodes → (ps : List Pattern) (ids : List ℕ) → AllByRecursion (law.HasAllPlaces ps) (map (term_at nodes) ids) → AllByRecursion (HavePlaces nodes ps) ids
all-places nodes arena ps [] h = tt
all-places nodes arena ps (id ∷ ids) h = (places-here nodes arena id ps h.0, all-places nodes arena ps ids h.1)

-- ---- tuples

take-all : (nodes : List Node) (a : AssumeDecl) (tuples : List (List ℕ)) → AllByRecursion (λ ids. AllByRecursion (λ k. k < length nodes) ids) tuples
    → AllByRecursion (law.FitsParams a) (map (terms_at nodes) tuples) → AllByRecursion (Takes nodes a.params) tuples
take-all nodes a [] h k = tt
take-all nodes a (ids ∷ tuples) h k = (record { there = All-from_recursion (λ k. k < length nodes) ids h.0; widths = k.0 }, take-all nodes a tuples h.1 k.1)

-- those of an assumption with parameters
pub tuples-are : (d : Design) (a : AssumeDecl) (nodes : List Node) (known : Known nodes) (goal : ℕ) (ids : List ℕ) → AreNumbersOf nodes (applications (term_at nodes goal)) ids
    → (length a.params == 0) ≡ false → (ps : List Pattern) → ps ≡ patterns d a → AllByRecursion (HavePlaces nodes ps) ids
    → AllByRecursion (law.FitsParams a) (tuples_of d a (term_at nodes goal)) → (vs : List (Vec ℕ Global)) → tuple_ids vs ≡ take most_instances (distinct_ids (all_found nodes ps ids)) → AreTuples d a nodes goal vs
tuples-are d a nodes known goal ids numbers some ps same places fit vs are =
    let given = all-give nodes known ps ids (recursion_from_All (λ k. k < length nodes) ids numbers.there) places in
    let distinct = distinct-are nodes known [] (all_found nodes ps ids) tt given.0 in
    let all : map (terms_at nodes) (distinct_ids (all_found nodes ps ids)) ≡ tuples_of d a (term_at nodes goal) =
    distinct.1 ∙ ap distinct_tuples (given.1 ∙ (λ j. spec.tuples_at (same j) (numbers.terms j)))
    ∙ sym (cond-false (length a.params == 0) ([] ∷ []) (distinct_tuples (spec.tuples_at (patterns d a) (applications (term_at nodes goal)))) some) in
    let first : map (terms_at nodes) (tuple_ids vs) ≡ take most_instances (tuples_of d a (term_at nodes goal)) =
    ap (map (terms_at nodes)) are ∙ taken-map (terms_at nodes) most_instances (distinct_ids (all_found nodes ps ids)) ∙ ap (take most_instances) all in
    record {
      takes = take-all nodes a (tuple_ids vs)
          (subst (AllByRecursion (λ ids. AllByRecursion (λ k. k < length nodes) ids)) (sym are) (taken-all (λ ids. AllByRecursion (λ k. k < length nodes) ids) most_instances (distinct_ids (all_found nodes ps ids)) distinct.0))
          (subst (AllByRecursion (law.FitsParams a)) (sym first) (taken-all (law.FitsParams a) most_instances (tuples_of d a (term_at nodes goal)) fit));
      are = first;
    }

no-widths : (ps : List Param) → length ps ≡ 0 → AllZip HasWidth (widths_of ps) []
no-widths [] e = tt
no-widths (p ∷ ps) e = absurd (omega (arith, e))

-- that of an assumption without parameters
pub one-tuple : (d : Design) (a : AssumeDecl) (nodes : List Node) (goal : ℕ) → length a.params ≡ 0 → (length a.params == 0) ≡ true → (vs : List (Vec ℕ Global)) → tuple_ids vs ≡ [] ∷ [] → AreTuples d a nodes goal vs
one-tuple d a nodes goal none e vs is = record {
  takes = subst (AllByRecursion (Takes nodes a.params)) (sym is) (record { there = All-nil (λ k. k < length nodes); widths = no-widths a.params none }, tt);
  are = ap (map (terms_at nodes)) is
      ∙ sym (ap (take most_instances) (cond-true (length a.params == 0) ([] ∷ []) (distinct_tuples (spec.tuples_at (patterns d a) (applications (term_at nodes goal)))) e));
}
