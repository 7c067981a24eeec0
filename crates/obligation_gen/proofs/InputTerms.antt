-- Inputs of an arena, and terms that stand for them.
use Rattle.std.proofs.Common.{◌≡◌, inl, inr, ℕ, ◌<◌, ◌≤◌, List, [], ◌∷◌, ◌++◌, map, length, All, Some, slice_get, refl, sym, ap, subst, ◌∙◌, arith}
use Rattle.std.specs.List.{AllZip}
use Rattle.std.proofs.lemmas.Bool.{cases_lt}
use Rattle.std.proofs.lemmas.List.{append_assoc, map-append}
use Rattle.std.proofs.lemmas.List.Elements.{All-append}
use Rattle.std.proofs.lemmas.Option.{slice_get_within}
use Rattle.bv_terms.specs.declared.node.Node.{Node}
use Rattle.bv_terms.specs.declared.node.Node.TheVariants.{Input}
use Rattle.bv_terms.specs.Arenas.{IsArena, IsInputTerm, KeepsTerms, inputs_in, term_at, width_at}
use Rattle.bv_terms.specs.Replacements.{HasWidthOf}
use Rattle.bv_terms.specs.TermTrees.{Term}
use Rattle.bv_terms.proofs.ArenaFacts.{input-below, inputs-rise}
use Rattle.obligation_laws.specs.Shown.{HasWidth}
use Rattle.expr_terms.specs.Variables.{AreThere, Keeps, MakesAll, terms_at}
use Rattle.obligation_laws.specs.States.{NewInput, input_term}
use Rattle.symbolic_runs.proofs.Growing.{head_all, map_all, one_all, tail_all}
use Rattle.obligation_gen.specs.ShownTrees.{HasInput, ShowsInputs}

-- an input stands once
one_place : (nodes : List Node) → IsArena nodes → (j k i v w : ℕ) → slice_get nodes j ≡ Some (Input i v) → slice_get nodes k ≡ Some (Input i w) → j ≡ k
one_place nodes arena j k i v w a b = elim (cases_lt j k) [
  | inl l ↦ let r = inputs-rise nodes arena j k i i v w l a b in absurd (omega (arith, r))
  | inr l ↦ elim (cases_lt k j) [
    | inl m ↦ let r = inputs-rise nodes arena k j i i w v m b a in absurd (omega (arith, r))
    | inr m ↦ omega (arith, l, m)
  ]
]

pub one_width : (nodes : List Node) → IsArena nodes → (j k i v w : ℕ) → slice_get nodes j ≡ Some (Input i v) → slice_get nodes k ≡ Some (Input i w) → v ≡ w
one_width nodes arena j k i v w a b =
    let same : Some (Input i v) ≡ Some (Input i w) = sym a ∙ ap (slice_get nodes) (one_place nodes arena j k i v w a b) ∙ b in
    cc

-- the term of an input
pub own_term : (nodes : List Node) → IsArena nodes → (i : NewInput) (n own : ℕ) → i.number ≡ n → HasInput nodes i → IsInputTerm nodes n own → (own < length nodes) × (term_at nodes own ≡ input_term i)
own_term nodes arena i n own e h o =
    let at : slice_get nodes own ≡ Some (Input i.number o.0) = o.1 ∙ ap (λ x. Some (Input x o.0)) (sym e) in
    let wide : o.0 ≡ i.width = one_width nodes arena own h.0 i.number o.0 i.width at h.1 in
    (slice_get_within nodes own (Input i.number o.0) at, arena.made own (Input i.number o.0) at ∙ ap (λ w. input_term (record { number = i.number; width = w })) wide)

pub numbered_below : (nodes : List Node) → IsArena nodes → (numbers : List ℕ) (is : List NewInput) → ShowsInputs nodes numbers is → All (λ i. i < inputs_in nodes) numbers
numbered_below nodes arena numbers is h = subst (All (λ i. i < inputs_in nodes)) (sym h.numbers_) (each is h.there)
  where
    each : (xs : List NewInput) → All (HasInput nodes) xs → All (λ i. i < inputs_in nodes) (map (λ (i : NewInput). i.number) xs)
    each [] all = λ k d l. absurd (omega (arith, l))
    each (x ∷ xs) all =
        let p = head_all (HasInput nodes) x xs all in
        All-append (λ i. i < inputs_in nodes) (x.number ∷ []) (map (λ (i : NewInput). i.number) xs)
        (one_all (λ i. i < inputs_in nodes) x.number (input-below nodes p.0 x.number x.width arena p.1)) (each xs (tail_all (HasInput nodes) x xs all))

-- each term has the width of the input that it stands for
pub widths_of_both : (nodes : List Node) → IsArena nodes → (is : List NewInput) (ids : List ℕ) → All (HasInput nodes) is → AllZip (λ (i : NewInput) t. HasWidth i.width t) is (terms_at nodes ids)
    → AllZip (HasWidthOf nodes) (map (λ (i : NewInput). i.number) is) ids
widths_of_both nodes arena [] [] all h = tt
widths_of_both nodes arena [] (k ∷ ids) all h = absurd h
widths_of_both nodes arena (i ∷ is) [] all h = absurd h
widths_of_both nodes arena (i ∷ is) (t ∷ ids) all h =
    let p = head_all (HasInput nodes) i is all in
    ((λ k w at. one_width nodes arena k p.0 i.number w i.width at p.1 ∙ sym h.0), widths_of_both nodes arena is ids (tail_all (HasInput nodes) i is all) h.1)

-- some inputs, and then others
pub inputs_both : (nodes : List Node) (ms ns : List ℕ) (is js : List NewInput) → ShowsInputs nodes ms is → ShowsInputs nodes ns js → ShowsInputs nodes (ms ++ ns) (is ++ js)
inputs_both nodes ms ns is js h k = record {
  numbers_ = (λ j. h.numbers_ j ++ k.numbers_ j) ∙ sym (map-append (λ (i : NewInput). i.number) is js);
  there = All-append (HasInput nodes) is js h.there k.there;
}

-- some terms, and then others
pub makes_both : (nodes : List Node) (ms ns : List ℕ) (ts us : List Term) → MakesAll nodes ms ts → MakesAll nodes ns us → MakesAll nodes (ms ++ ns) (ts ++ us)
makes_both nodes ms ns ts us h k = record {
  there = All-append (λ i. i < length nodes) ms ns h.there k.there;
  terms = map-append (term_at nodes) ms ns ∙ (λ j. h.terms j ++ k.terms j);
}

pub makes_none : (nodes : List Node) → MakesAll nodes [] []
makes_none nodes = record { there = λ k d l. absurd (omega (arith, l)); terms = refl }
