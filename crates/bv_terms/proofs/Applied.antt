-- The applications among some terms, one term more.
use Rattle.std.proofs.Common.{◌≡◌, ℕ, ◌+◌, ◌<◌, true, false, List, [], ◌∷◌, ◌++◌, filter, length, map, take, slice_index, get_or, refl, ap, sym, ◌∙◌, subst, arith, zero, suc}
use Rattle.std.specs.List.{All}
use Rattle.std.proofs.lemmas.List.{append-nil, map-append, take_more}
use Rattle.std.proofs.lemmas.List.Elements.{All-append, filter-append}
use Rattle.std.proofs.lemmas.Bool.{cond-true, cond-false}
use Rattle.bv_terms.specs.declared.node.Node.{Node}
use Rattle.bv_terms.specs.TermTrees.{Term}
use Rattle.bv_terms.specs.Arenas.{term_at}
use Rattle.bv_terms.specs.Walks.{AreNumbersOf, is_application}

module _ (nodes : List Node) (ids : List ℕ) (i : ℕ) (l : i < length ids) where
  abbrev found_to : ℕ → List Term
  found_to n = filter is_application (map (term_at nodes) (take n ids))

  abbrev k : ℕ
  k = slice_index ids i

  next-found : found_to (i + 1) ≡ found_to i ++ filter is_application (term_at nodes k ∷ [])
  next-found =
      ap (λ xs. filter is_application (map (term_at nodes) xs)) (take_more ids i 0 l) ∙ ap (filter is_application) (map-append (term_at nodes) (take i ids) (k ∷ []))
      ∙ filter-append is_application (map (term_at nodes) (take i ids)) (term_at nodes k ∷ [])

  only : (j d : ℕ) → j < 1 → k ≡ get_or (k ∷ []) j d
  only zero d h = refl
  only (suc j) d h = absurd (omega arith)

  pub found-more : (found new : List ℕ) → k < length nodes → is_application (term_at nodes k) ≡ true → new ≡ found ++ k ∷ [] → AreNumbersOf nodes (found_to i) found → AreNumbersOf nodes (found_to (i + 1)) new
  found-more found new inside e n h = record {
    there = subst (All (λ x. x < length nodes)) (sym n)
        (All-append (λ x. x < length nodes) found (k ∷ []) h.there (λ j d g. subst (λ x. x < length nodes) (only j d g) inside));
    terms = ap (map (term_at nodes)) n ∙ map-append (term_at nodes) found (k ∷ []) ∙ ap (λ ts. ts ++ term_at nodes k ∷ []) h.terms
        ∙ ap (λ ts. found_to i ++ ts) (sym (cond-true (is_application (term_at nodes k)) (term_at nodes k ∷ []) [] e)) ∙ sym next-found;
  }

  pub found-same : (found new : List ℕ) → is_application (term_at nodes k) ≡ false → new ≡ found → AreNumbersOf nodes (found_to i) found → AreNumbersOf nodes (found_to (i + 1)) new
  found-same found new e n h = subst (AreNumbersOf nodes (found_to (i + 1))) (sym n) (record {
    there = h.there;
    terms = h.terms ∙ sym (append-nil (found_to i)) ∙ ap (λ ts. found_to i ++ ts) (sym (cond-false (is_application (term_at nodes k)) (term_at nodes k ∷ []) [] e)) ∙ sym next-found;
  })
