-- A formula that is true has a failure, along the way of the obligation's leaf.
use Rattle.std.proofs.Common.{◌≡◌, inl, inr, ℕ, suc, ◌==◌, List, [], ◌∷◌, length, Option, Some, None, refl, sym, ap, subst, ◌∙◌, arith}
use Rattle.std.specs.Prelude.{option_map, slice_get, unwrap_or}
use Rattle.std.proofs.lemmas.Bool.{cases_Bool, cond-false, eqb-true}
use Rattle.bv_terms.specs.Arenas.{IsArena, term_at}
use Rattle.bv_terms.specs.Needed.{IsAmong}
use Rattle.bv_terms.specs.TermTrees.{Term}
use Rattle.bv_terms.specs.TermValues.{Inputs}
use Rattle.bv_terms.specs.declared.node.Node.{Node}
use Rattle.query_laws.specs.Candidates.{MakeTrue}
use Rattle.cocoon_num.specs.Tree.{Design}
use Rattle.cocoon_num.specs.declared.bits.Bits.{Bits}
use Rattle.failure_reading.specs.Witnesses.{HasFailure, IsTrueFor, OthersAreZero}
use Rattle.failure_reading.specs.OfObligation.{AreShort, begin_of, Fails, FailsIn, IsBegin}
use Rattle.failures.specs.Found.{BeginFits, BeginsAt, CanFail, defined, FailureFits, failure_of, NoneBegins}
use Rattle.failures.specs.declared.failure.Failure as code
use Rattle.obligation_gen.specs.Owed.{IsOwed}
use Rattle.obligation_gen.specs.Shown.{kind_in}
use Rattle.obligation_gen.specs.declared.obligation.Kind.TheVariants.{Contained, Bounded}
use Rattle.obligation_gen.specs.declared.obligation.Obligation.{Obligation}
use Rattle.query_laws.proofs.InputNumbers.{are_inputs}
use Rattle.query_laws.proofs.Renaming.{from_zero}
use Rattle.query_laws.specs.OwnNames.{inputs_of}
use Rattle.role_meaning.specs.Located.{loc_of, sent_of}
use Rattle.bv_terms.specs.Values.{values_of}
use Rattle.failures.specs.Failures.{OfLevel}
use Rattle.bv_terms.specs.WithRows.{Tables}
use Rattle.bv_terms.specs.Copies.{index_in}
use Rattle.verdicts.specs.Failing.{GoesBy, IsFailureOf}
use Rattle.verdicts.specs.Telling.{IsVerdictOn, SaysItFails}
use Rattle.verdicts.specs.declared.deciding.Verdict.{Verdict}
use Rattle.verdicts.specs.declared.deciding.Verdict.TheVariants.{Refuted, Over}
use Rattle.verdicts.proofs.Along.{Computed, goes}
use Rattle.verdicts.proofs.Failing.{GoesHere, is_failure_of}

-- ---- inputs that are not there

-- the value at the index of a number that is not among these
none_at : (inputs : List ℕ) (values : List Bits) (i : ℕ) → length values ≡ length inputs → (IsAmong inputs i → ⊥) → slice_get values (index_in inputs i) ≡ None
none_at [] [] i e absent = refl
none_at [] (b ∷ values) i e absent = absurd (cc)
none_at (j ∷ inputs) [] i e absent = absurd (cc)
none_at (j ∷ inputs) (b ∷ values) i e absent = elim (cases_Bool (j == i)) [
  | inl t ↦ absurd (absent (0, ap Some (eqb-true j i t)))
  | inr f ↦
      ap (slice_get (b ∷ values)) (cond-false (j == i) 0 (suc (index_in inputs i)) f)
      ∙ none_at inputs values i (let same = e in omega (arith, same)) (λ (k, is). absent (suc k, is))
]

nothing_at : (inputs : List ℕ) (values : List Bits) (i : ℕ) → length values ≡ length inputs → (IsAmong inputs i → ⊥) → values_of inputs values i ≡ 0
nothing_at inputs values i e absent =
    ap (λ (o : Option Bits). unwrap_or (option_map (λ (b : Bits). b.value) o) 0) (ap (slice_get values) (from_zero inputs i) ∙ none_at inputs values i e absent)

pub elsewhere : (formula : Term) (inputs : List ℕ) (values : List Bits) → inputs ≡ inputs_of formula → length values ≡ length inputs → OthersAreZero formula (values_of inputs values)
elsewhere formula inputs values are e = λ i absent.
    nothing_at inputs values i e (λ among.
    let m = (are_inputs formula).only i (subst (λ xs. IsAmong xs i) are among) in absent m.0 m.1)

-- the same values, by other lists
pub true_by : (tables : Tables) (t : Term) (xs ys : List ℕ) (vs ws : List Bits) → xs ≡ ys → vs ≡ ws → MakeTrue tables (values_of ys ws) t → MakeTrue tables (values_of xs vs) t
true_by tables t xs ys vs ws e f h = subst (λ zs. MakeTrue tables (values_of zs vs) t) (sym e) (subst (λ us. MakeTrue tables (values_of ys us) t) (sym f) h)

pub others_by : (t : Term) (xs ys : List ℕ) (vs ws : List Bits) → xs ≡ ys → vs ≡ ws → OthersAreZero t (values_of ys ws) → OthersAreZero t (values_of xs vs)
others_by t xs ys vs ws e f h = subst (λ zs. OthersAreZero t (values_of zs vs)) (sym e) (subst (λ us. OthersAreZero t (values_of ys us)) (sym f) h)

-- ---- the laws that are cited

pub record Laws (d : Design) (tables : Tables) (o : Obligation) (ins : Inputs) : Type 0 where
  pub fits : IsTrueFor d tables o ins → BeginFits o.level d (begin_of ins o)
  pub short : IsTrueFor d tables o ins → AreShort (begin_of ins o)
  pub fails : (h : IsTrueFor d tables o ins) → CanFail o.level d tables → HasFailure d tables o h.owed.owed.leaf.way (begin_of ins o)
  pub found : IsTrueFor d tables o ins → CanFail o.level d tables → NoneBegins (Fails (kind_in o.kind)) o.level d tables (begin_of ins o) → ⊥
  pub computed : Computed

module _ (d : Design) (tables : Tables) (o : Obligation) (nodes : List Node) (ins : Inputs) (laws : Laws d tables o ins) (arena : IsArena nodes) (is_true : MakeTrue tables ins (term_at nodes o.formula))
    (others : OthersAreZero (term_at nodes o.formula) ins) (can : CanFail o.level d tables) where
  abbrev true_for : IsOwed d nodes o → IsTrueFor d tables o ins
  true_for h = record { nodes = nodes; arena = arena; owed = h; true_ = is_true; others = others }

  -- a failure is found
  pub is_found : IsOwed d nodes o → (IsBegin d (begin_of ins o) → NoneBegins (Fails (kind_in o.kind)) o.level d tables (begin_of ins o)) → ⊥
  is_found owed none =
      let h = true_for owed in
      laws.found h can (none (record { short = laws.short h; fields = (laws.fits h).fields }))

  -- and goes the way of each leaf that the obligation shows
  goes_here : (f : code.Failure) → FailsIn d o f → (AreShort (begin_of ins o) → BeginsAt tables (begin_of ins o) f) → GoesHere d nodes o (failure_of d f)
  goes_here f fails so = λ n owed at shows.
      let h = true_for (record { number = n; owed = owed; there = at; shown = shows }) in
      let begins = so (laws.short h) in
      let x = laws.fails h can in
      subst (λ l. OfLevel (GoesBy owed.leaf.way) l d (failure_of d f)) shows.level_
      (goes laws.computed d (failure_of d f) x.failure (x.begins.defs ∙ ap (defined d) (sym begins.defs)) (x.begins.at ∙ ap (loc_of d) (sym begins.at)) (x.begins.packet ∙ ap (sent_of d) (sym begins.packet))
      (x.begins.choices ∙ sym begins.choices) owed.leaf.way (kind_in o.kind) o.level fails.fails x.along)

  pub says_it_fails : (f : code.Failure) → FailsIn d o f → FailureFits o.level d f → (AreShort (begin_of ins o) → BeginsAt tables (begin_of ins o) f) → (v : Verdict) → IsVerdictOn o f v → SaysItFails d nodes o v
  says_it_fails f fails fits begins (Refuted g) (k, e) = subst (IsFailureOf d nodes o Contained) (sym e) (is_failure_of d nodes o Contained f k fails (goes_here f fails begins) fits)
  says_it_fails f fails fits begins (Over g) (k, e) = subst (IsFailureOf d nodes o Bounded) (sym e) (is_failure_of d nodes o Bounded f k fails (goes_here f fails begins) fits)
  says_it_fails f fails fits begins v h = absurd h
