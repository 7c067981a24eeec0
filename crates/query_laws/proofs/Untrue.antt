-- A query whose clauses nothing satisfies is of a formula that is never true.
use Rattle.std.proofs.Common.{◌≡◌, ◌↔◌, ℕ, ◌<◌, ◌^◌, List, [], ◌∷◌, ◌++◌, fold, length, map, Bool, true, IsTrue, Option, Some, None, refl, sym, ap, subst, ◌∙◌}
use Rattle.std.specs.Prelude.{nat_lt, slice_get}
use Rattle.std.specs.List.{AllByRecursion}
use Rattle.std.proofs.lemmas.Bool.{lt-ltb, ltb-true}
use Rattle.cnf_core.specs.Deriving.{Derives}
use Rattle.cnf_core.specs.Satisfying.{Satisfies, WellNamed, makes_true}
use Rattle.cnf_core.specs.declared.clauses.Assignment.{Assignment}
use Rattle.cnf_core.specs.declared.clauses.Cnf.{Cnf}
use Rattle.cnf_core.specs.declared.log.Log.{Log}
use Rattle.cocoon_num.specs.Tree.{AssumeDecl, Design}
use Rattle.cocoon_num.specs.Values.{FitsWidth, number}
use Rattle.cocoon_resolve.specs.Readers.{all_assumptions, assumptions_to}
use Rattle.cocoon_types.specs.Tables.{Defs}
use Rattle.bit_blast.specs.Blasting.{IsClauses}
use Rattle.bit_blast.specs.Clauses.{clauses_of}
use Rattle.bit_blast.specs.Goals.{IsGoal}
use Rattle.bit_blast.specs.Meanings.{all_hold}
use Rattle.bit_blast.specs.Readings.{Extends}
use Rattle.bv_terms.specs.declared.node.TermOp.TheVariants.{And}
use Rattle.bv_terms.specs.Inputs.{AreApart, FunctionsFit, InputsFit, Mentions, renamed}
use Rattle.bv_terms.specs.TermTrees.{IsTerm, Term, binary, constant, width}
use Rattle.bv_terms.specs.TermValues.{Functions, Inputs, operated, term_value}
use Rattle.bv_terms.specs.Walks.{is_among, walk}
use Rattle.bv_terms.proofs.Subterms.{walk-has}
use Rattle.cnf_core.specs.declared.certificates.Instance.{Instance}
use Rattle.refinement.specs.Assumptions.{AreDefinitions, Meets}
use Rattle.obligation_laws.specs.Shown.{HasWidth, functions_by}
use Rattle.query_laws.specs.Over.{AllOver, IsOver, fit_input}
use Rattle.flat_laws.specs.Flat.{flattened}
use Rattle.flat_laws.specs.Meant.{AppliesAlike, CanFlatten, HasInputsBelow, with_results}
use Rattle.flat_laws.specs.Rows.{AllFit}
use Rattle.query_laws.specs.LeafTerms.{Stands, any_input}
use Rattle.fun_instances.specs.AssumptionTerms.{value_term}
use Rattle.fun_instances.specs.Saying.{IsTrueUnder}
use Rattle.fun_instances.specs.Taking.{NumbersFit, OfAssumption}
use Rattle.obligation_laws.specs.Failing.{NeverTrue}
use Rattle.query_laws.specs.Tuples.{pattern_terms}
use Rattle.bv_terms.proofs.InputLists.{names-apart}
use Rattle.query_laws.specs.Certified.{DerivesFrom}
use Rattle.query_laws.specs.OwnNames.{in_own_arena, input_count, inputs_of, own_name}
use Rattle.query_laws.specs.Queries.{Fits, added, asked, instance_term, query}
use Rattle.query_laws.proofs.InputNumbers.{are_inputs, mentioned_in}
use Rattle.query_laws.proofs.Renaming.{behind_name, behind_names, from_zero, index_below, mentioned_behind, renamed_over, renamed_width, value_agrees}

-- ---- the laws that are cited

pub record TermLaws : Type 0 where
  pub alike : (d : Design) (inputs : ℕ → ℕ → Bool) (t : Term) → IsOver d inputs t → AppliesAlike t
  pub inputs : (d : Design) (inputs : ℕ → ℕ → Bool) (t : Term) → IsOver d inputs t → (i w : ℕ) → Mentions t i w → inputs i w ≡ true
  pub others : (d : Design) (inputs : ℕ → ℕ → Bool) (t : Term) → IsOver d inputs t → (others : ℕ → ℕ → Bool) → ((i w : ℕ) → Mentions t i w → others i w ≡ true) → IsOver d others t
  pub walk_renamed : (t : Term) (name : ℕ → ℕ) → AreApart name t → walk (renamed name t) [] ≡ map (renamed name) (walk t [])
  pub value_renamed : (t : Term) (name : ℕ → ℕ) (F : Functions) (ins : Inputs) → term_value F ins (renamed name t) ≡ term_value F (λ i. ins (name i)) t

pub record FlatLaws : Type 0 where
  pub goals : (goal : Term) (first : ℕ) → CanFlatten goal first → IsGoal (flattened goal first)
  pub stays_true : (goal : Term) (first : ℕ) → CanFlatten goal first → (F G : Functions) (ins : Inputs) → term_value F ins goal ≡ number 1 1 → term_value G (with_results F ins goal first) (flattened goal first) ≡ number 1 1
  pub inputs_fit : (goal : Term) (first : ℕ) → CanFlatten goal first → (ins : Inputs) → AllFit goal first ins → InputsFit (flattened goal first) ins
  pub results_fit : (goal : Term) (first : ℕ) → CanFlatten goal first → (F : Functions) (ins : Inputs) → FunctionsFit goal F → InputsFit goal ins → AllFit goal first (with_results F ins goal first)
  pub extends : (goal : Term) → IsGoal goal → (F : Functions) (ins : Inputs) → InputsFit goal ins → ((a : Assignment) × Extends goal ins a) ↔ (term_value F ins goal ≡ number 1 1)
  pub holds : (cnf : Cnf) (goal : Term) → IsClauses cnf goal → (a : Assignment) → Satisfies a cnf ↔ IsTrue (all_hold (makes_true a) (clauses_of goal))
  pub no_model : (cnf : Cnf) (log : Log) (a : Assignment) → WellNamed cnf → Derives cnf log → Satisfies a cnf → ⊥

-- which instances fit a design, and hold
pub record InstanceLaws (d : Design) (level : ℕ) : Type 0 where
  pub pattern_widths : (inputs : ℕ → ℕ → Bool) (goal : Term) → IsOver d inputs goal → AllByRecursion (HasWidth 1) (pattern_terms d level goal)
  pub patterns_over : (inputs : ℕ → ℕ → Bool) (goal : Term) → IsOver d inputs goal → AllOver d inputs (pattern_terms d level goal)
  pub value_widths : (i : ℕ) → OfAssumption d i (λ a. (ns : List ℕ) → NumbersFit a ns → HasWidth 1 (value_term d a ns))
  pub values_over : (i : ℕ) → OfAssumption d i (λ a. (ns : List ℕ) → NumbersFit a ns → (inputs : ℕ → ℕ → Bool) → IsOver d inputs (value_term d a ns))

pub record HoldingLaws (d : Design) (level : ℕ) : Type 0 where
  pub patterns : (defs : Defs) → AreDefinitions d defs → Meets level d defs → (inputs : ℕ → ℕ → Bool) (goal : Term) → IsTerm goal → IsOver d inputs goal → (ins : Inputs) → InputsFit goal ins
      → AllByRecursion (IsTrueUnder d defs ins) (pattern_terms d level goal)
  pub values : (defs : Defs) → AreDefinitions d defs → Meets level d defs → (i : ℕ) → i < length (assumptions_to level d)
      → OfAssumption d i (λ a. (ns : List ℕ) → NumbersFit a ns → (ins : Inputs) → IsTrueUnder d defs ins (value_term d a ns))
  pub functions : (defs : Defs) → AreDefinitions d defs → (inputs : ℕ → ℕ → Bool) (t : Term) → IsOver d inputs t → FunctionsFit t (functions_by d defs)

-- ---- chains

both : (P : Term → Type 0) (ts us : List Term) → AllByRecursion P ts → AllByRecursion P us → AllByRecursion P (ts ++ us)
both P [] us h k = k
both P (t ∷ ts) us h k = (h.0, both P ts us h.1 k)

ands_over : (d : Design) (p : ℕ → ℕ → Bool) (t : Term) (ts : List Term) → IsOver d p t → AllOver d p ts → IsOver d p (fold (binary And) t ts)
ands_over d p t [] h k = h
ands_over d p t (u ∷ us) h k = ands_over d p (binary And t u) us (h, k.0) k.1

ands_width : (t : Term) (ts : List Term) → width (fold (binary And) t ts) ≡ width t
ands_width t [] = refl
ands_width t (u ∷ us) = ands_width (binary And t u) us

ands_first : (t : Term) (ts : List Term) → IsTerm (fold (binary And) t ts) → IsTerm t
ands_first t [] h = h
ands_first t (u ∷ us) h = (ands_first (binary And t u) us h).0

ands_one : (F : Functions) (ins : Inputs) (t : Term) (ts : List Term) → term_value F ins t ≡ number 1 1 → AllByRecursion (λ u. term_value F ins u ≡ number 1 1) ts → term_value F ins (fold (binary And) t ts) ≡ number 1 1
ands_one F ins t [] h k = h
ands_one F ins t (u ∷ us) h k = ands_one F ins (binary And t u) us (ap (λ v. operated And v (term_value F ins u)) h ∙ ap (operated And (number 1 1)) k.0) k.1

-- ---- instances

module _ (d : Design) (level : ℕ) (P : Term → Type 0) (none : P (constant 1 1)) (some : (x : Instance) → Fits d level x → (a : AssumeDecl) → slice_get (all_assumptions d) x.number ≡ Some a → P (value_term d a x.values)) where
  pub each_instance : (is : List Instance) → AllByRecursion (Fits d level) is → AllByRecursion P (map (instance_term d) is)
  each_instance [] h = tt
  each_instance (x ∷ is) h = (by (slice_get (all_assumptions d) x.number) refl, each_instance is h.1)
    where
      by : (o : Option AssumeDecl) → slice_get (all_assumptions d) x.number ≡ o → P (elim o as (λ y. Term) [ None ↦ constant 1 1 | Some a ↦ value_term d a x.values ])
      by None e = none
      by (Some a) e = some x h.0 a e

-- ---- what is asked

pub own_stands : (d : Design) (formula : Term) → Stands d 1 formula → Stands d 1 (in_own_arena formula)
own_stands d formula h = (renamed_width (own_name formula) formula ∙ h.0, renamed_over (own_name formula) d formula h.1)

pub added_wide : (d : Design) (level : ℕ) → InstanceLaws d level → (formula : Term) → Stands d 1 formula → (is : List Instance) → AllByRecursion (Fits d level) is → AllByRecursion (HasWidth 1) (added d level formula is)
added_wide d level laws formula h is fits =
    both (HasWidth 1) (pattern_terms d level (in_own_arena formula)) (map (instance_term d) is) (laws.pattern_widths any_input (in_own_arena formula) (own_stands d formula h).1)
    (each_instance d level (HasWidth 1) refl (λ x fit a e. laws.value_widths x.number a e x.values (fit.values a e)) is fits)

module _ (terms : TermLaws) (d : Design) (level : ℕ) (instances : InstanceLaws d level) (formula : Term) (stands : Stands d 1 formula) (is : List Instance) (fits : AllByRecursion (Fits d level) is)
    (is_term : IsTerm (asked d level formula is)) where
  abbrev own : Term
  own = in_own_arena formula

  abbrev goal : Term
  goal = asked d level formula is

  abbrev more : List Term
  more = added d level formula is

  own_over : IsOver d any_input (in_own_arena formula)
  own_over = renamed_over (own_name formula) d formula stands.1

  -- what holds of the formula's inputs holds of all
  asked_over : (p : ℕ → ℕ → Bool) → ((i w : ℕ) → Mentions (in_own_arena formula) i w → p i w ≡ true) → IsOver d p (asked d level formula is)
  asked_over p h =
      let over = terms.others d any_input own own_over p h in
      ands_over d p own more over
      (both (IsOver d p) (pattern_terms d level own) (map (instance_term d) is) (instances.patterns_over p own over)
      (each_instance d level (IsOver d p) tt (λ x fit a e. instances.values_over x.number a e x.values (fit.values a e) p) is fits))

  behind : (j w : ℕ) → Mentions (in_own_arena formula) j w → (i : ℕ) × (j ≡ own_name formula i) × Mentions formula i w
  behind j w m = mentioned_behind (own_name formula) formula (terms.walk_renamed formula (own_name formula) (names-apart formula 0 (inputs_of formula) (are_inputs formula))) j w m

  below : HasInputsBelow (input_count formula) (asked d level formula is)
  below i w m =
      let n = input_count formula in
      let p : ℕ → ℕ → Bool = λ j v. nat_lt j n in
      ltb-true i n (terms.inputs d p goal
      (asked_over p (λ j v q. let b = behind j v q in lt-ltb j n (subst (λ x. x < n) (sym (b.1 ∙ from_zero (inputs_of formula) b.0)) (index_below (inputs_of formula) b.0 (mentioned_in formula b.0 v b.2))))) i w m)

  pub can_flatten : CanFlatten (asked d level formula is) (input_count formula)
  can_flatten = record {
    term = is_term;
    truth = ands_width own more ∙ renamed_width (own_name formula) formula ∙ stands.0;
    alike = terms.alike d any_input goal (asked_over any_input (λ i w m. refl));
    below = below;
  }

  module _ (holding : HoldingLaws d level) (flat : FlatLaws) where
    pub untrue : (cnf : Cnf) → IsClauses cnf (query d level formula is) → ((a : Assignment) → Satisfies a cnf → ⊥) → NeverTrue level d formula
    untrue cnf clauses none defs are meets ins fit one =
        let n = input_count formula in
        let F = functions_by d defs in
        let names = own_name formula in
        let ins' = behind_names ins (inputs_of formula) in
        let same : (i w : ℕ) → Mentions formula i w → ins' (names i) ≡ ins i = λ i w m. behind_name ins (inputs_of formula) i (mentioned_in formula i w m) in
        let own_one : term_value F ins' own ≡ number 1 1 =
        terms.value_renamed formula names F ins' ∙ value_agrees (λ u. is_among (walk formula []) u ≡ true) F (λ i. ins' (names i)) ins same formula (walk-has formula []) ∙ one in
        let own_fit : InputsFit own ins' = λ j w m.
        let b = behind j w m in
        subst (FitsWidth w) (sym (ap ins' b.1 ∙ same b.0 w b.2)) (fit b.0 w b.2) in
        let asked_one : term_value F ins' goal ≡ number 1 1 =
        ands_one F ins' own more own_one
        (both (λ u. term_value F ins' u ≡ number 1 1) (pattern_terms d level own) (map (instance_term d) is)
        (holding.patterns defs are meets any_input own (ands_first own more is_term) own_over ins' own_fit)
        (each_instance d level (λ u. term_value F ins' u ≡ number 1 1) refl (λ x f a e. holding.values defs are meets x.number f.among a e x.values (f.values a e) ins') is fits)) in
        let asked_fit : InputsFit goal ins' = λ i w m.
        ltb-true (ins' i) (2 ^ w) (terms.inputs d (fit_input ins') goal (asked_over (fit_input ins') (λ j v q. lt-ltb (ins' j) (2 ^ v) (own_fit j v q))) i w m) in
        let functions = holding.functions defs are any_input goal (asked_over any_input (λ i w m. refl)) in
        let all = with_results F ins' goal n in
        let flat_one = flat.stays_true goal n can_flatten F F ins' asked_one in
        let flat_fit = flat.inputs_fit goal n can_flatten all (flat.results_fit goal n can_flatten F ins' functions asked_fit) in
        let found = (flat.extends (query d level formula is) (flat.goals goal n can_flatten) F all flat_fit).1 flat_one in
        none found.0 ((flat.holds cnf (query d level formula is) clauses found.0).1 found.1.holds)

    pub refuted : (log : Log) → DerivesFrom (query d level formula is) log → NeverTrue level d formula
    refuted log h = untrue h.cnf h.clauses.are (λ a s. flat.no_model h.cnf log a h.clauses.named h.derives s)
