-- Choices that are read back, by numbers of terms.
use Rattle.std.proofs.Common.{◌≡◌, inl, inr, ℕ, zero, suc, ◌<◌, ◌==◌, Bool, true, false, List, [], ◌∷◌, map, length, All, Option, Some, None, option_map, if◌then◌else◌, refl, sym, ap, subst, ◌∙◌, arith}
use Rattle.std.specs.Prelude.{slice_get, option_and_then, unwrap_or}
use Rattle.std.proofs.lemmas.Bool.{cases_Bool, eqb-true, eq-eqb, false≢true}
use Rattle.std.proofs.lemmas.Option.{slice_get-map}
use Rattle.cocoon_num.specs.Tree.{Design}
use Rattle.bv_terms.specs.declared.node.Node.{Node}
use Rattle.bv_terms.specs.Arenas.{IsArena, term_at}
use Rattle.bv_terms.specs.TermTrees as term
use Rattle.bv_terms.specs.TermTrees.{Term}
use Rattle.bv_terms.specs.Walks.{same_term}
use Rattle.bv_terms.proofs.OneNumber.{one-number}
use Rattle.bv_terms.proofs.SameTerms.{same-itself, same-only}
use Rattle.expr_terms.specs.Variables.{AreThere, Makes, MakesAll, terms_at}
use Rattle.obligation_laws.specs.Leaves as laws
use Rattle.obligation_laws.specs.Leaves.{sent_to, inside}
use Rattle.obligation_laws.specs.States.{NewInput, input_term}
use Rattle.symbolic_runs.proofs.Growing.{head_all, tail_all}
use Rattle.obligation_gen.specs.ShownTrees.{ShowsEnd}
use Rattle.obligation_gen.specs.declared.tree.End.{End}
use Rattle.obligation_gen.specs.declared.tree.End.TheVariants.{Sent, Inside}
use Rattle.obligation_laws.specs.Formulas as formulas
use Rattle.obligation_laws.specs.Formulas.{position, read_back}
use Rattle.obligation_gen.specs.Sent.{fields_of, position_of, sent_at, values_of}

-- ---- what is sent

pub values_made : (d : Design) (nodes : List Node) (e : End) (of : laws.End) → ShowsEnd d nodes e of → MakesAll nodes (values_of e) (laws.end_values of)
values_made d nodes (Sent role values fields) (sent_to r vs fs) h = h.values_
values_made d nodes (Inside role values fields) (inside r vs fs) h = h.values_
values_made d nodes (Sent role values fields) (inside r vs fs) h = absurd h
values_made d nodes (Inside role values fields) (sent_to r vs fs) h = absurd h

pub fields_made : (d : Design) (nodes : List Node) (e : End) (of : laws.End) → ShowsEnd d nodes e of → MakesAll nodes (fields_of e) (laws.end_fields of)
fields_made d nodes (Sent role values fields) (sent_to r vs fs) h = h.fields_
fields_made d nodes (Inside role values fields) (inside r vs fs) h = h.fields_
fields_made d nodes (Sent role values fields) (inside r vs fs) h = absurd h
fields_made d nodes (Inside role values fields) (sent_to r vs fs) h = absurd h

-- ---- positions

pub position_one : (t u : ℕ) (us : List ℕ) → u ≡ t → position_of t (u ∷ us) ≡ Some 0
position_one t u us e = ap (λ b. if b then Some 0 else option_map suc (position_of t us)) (eq-eqb u t e)

module _ (nodes : List Node) (arena : IsArena nodes) (i : NewInput) (own : ℕ) (there : own < length nodes) (is : term_at nodes own ≡ input_term i) where
  -- the input's number alone has its term
  alone : (k : ℕ) → k < length nodes → same_term (term_at nodes k) (input_term i) ≡ (k == own)
  alone k l = elim (cases_Bool (k == own)) [
    | inl e ↦ let same : k ≡ own = eqb-true k own e in ap (λ t. same_term t (input_term i)) (ap (term_at nodes) same ∙ is) ∙ same-itself (input_term i) ∙ sym e
    | inr e ↦ elim (cases_Bool (same_term (term_at nodes k) (input_term i))) [
      | inl s ↦
          let same : k ≡ own = one-number nodes arena k own l there (same-only (term_at nodes k) (input_term i) s ∙ sym is) in
          absurd (false≢true (sym e ∙ eq-eqb k own same))
      | inr s ↦ s ∙ sym e
    ]
  ]

  position_is : (ks : List ℕ) → AreThere nodes ks → position i (terms_at nodes ks) ≡ position_of own ks
  position_is [] all = refl
  position_is (k ∷ ks) all = λ j. if alone k (head_all (λ x. x < length nodes) k ks all) j then Some 0 else option_map suc (position_is ks (tail_all (λ x. x < length nodes) k ks all) j)

  sent_is : (old sent : List ℕ) → AreThere nodes old → formulas.sent_at i (terms_at nodes old) (terms_at nodes sent) ≡ option_map (term_at nodes) (sent_at own old sent)
  sent_is old sent all = ap (option_and_then (slice_get (terms_at nodes sent))) (position_is old all) ∙ by (position_of own old)
    where
      by : (o : Option ℕ) → option_and_then (slice_get (terms_at nodes sent)) o ≡ option_map (term_at nodes) (option_and_then (slice_get sent) o)
      by None = refl
      by (Some k) = slice_get-map (term_at nodes) sent k

  module _ (d : Design) (old end : End) (o e : laws.End) (shows_old : ShowsEnd d nodes old o) (shows : ShowsEnd d nodes end e) where
    value_is : formulas.sent_at i (laws.end_values o) (laws.end_values e) ≡ option_map (term_at nodes) (sent_at own (values_of old) (values_of end))
    value_is =
        let a = values_made d nodes old o shows_old in
        let b = values_made d nodes end e shows in
        (λ j. formulas.sent_at i (sym a.terms j) (sym b.terms j)) ∙ sent_is (values_of old) (values_of end) a.there

    field_is : formulas.sent_at i (laws.end_fields o) (laws.end_fields e) ≡ option_map (term_at nodes) (sent_at own (fields_of old) (fields_of end))
    field_is =
        let a = fields_made d nodes old o shows_old in
        let b = fields_made d nodes end e shows in
        (λ j. formulas.sent_at i (sym a.terms j) (sym b.terms j)) ∙ sent_is (fields_of old) (fields_of end) a.there

    abbrev chosen : Option Term → Option Term → Term
    chosen v f = elim v [ Some t ↦ t | None ↦ unwrap_or f (term.constant i.width 0) ]

    read_is : read_back o e i ≡ chosen (option_map (term_at nodes) (sent_at own (values_of old) (values_of end))) (option_map (term_at nodes) (sent_at own (fields_of old) (fields_of end)))
    read_is = λ j. chosen (value_is j) (field_is j)

    pub value_back : (k : ℕ) → sent_at own (values_of old) (values_of end) ≡ Some k → read_back o e i ≡ term_at nodes k
    value_back k h = read_is ∙ ap (λ x. chosen (option_map (term_at nodes) x) (option_map (term_at nodes) (sent_at own (fields_of old) (fields_of end)))) h

    pub field_back : (k : ℕ) → sent_at own (values_of old) (values_of end) ≡ None → sent_at own (fields_of old) (fields_of end) ≡ Some k → read_back o e i ≡ term_at nodes k
    field_back k h g = read_is ∙ (λ j. chosen (option_map (term_at nodes) (h j)) (option_map (term_at nodes) (g j)))

    pub none_back : sent_at own (values_of old) (values_of end) ≡ None → sent_at own (fields_of old) (fields_of end) ≡ None → read_back o e i ≡ term.constant i.width 0
    none_back h g = read_is ∙ (λ j. chosen (option_map (term_at nodes) (h j)) (option_map (term_at nodes) (g j)))

-- what is sent is there
pub sent_there : (nodes : List Node) (own : ℕ) (old sent : List ℕ) (k : ℕ) → AreThere nodes sent → sent_at own old sent ≡ Some k → k < length nodes
sent_there nodes own old sent k all h = by (position_of own old) h
  where
    inside_of : (xs : List ℕ) → AreThere nodes xs → (p : ℕ) → slice_get xs p ≡ Some k → k < length nodes
    inside_of [] there p e = absurd (cc)
    inside_of (x ∷ xs) there zero e = let same : x ≡ k = cc in subst (λ y. y < length nodes) same (head_all (λ y. y < length nodes) x xs there)
    inside_of (x ∷ xs) there (suc p) e = inside_of xs (tail_all (λ y. y < length nodes) x xs there) p e

    by : (o : Option ℕ) → option_and_then (slice_get sent) o ≡ Some k → k < length nodes
    by None e = absurd (cc)
    by (Some p) e = inside_of sent all p e
