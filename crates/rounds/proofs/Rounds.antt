-- One round: what a candidate tells of the formula.
use Rattle.std.proofs.Common.{◌≡◌, ◌⊎◌, ℕ, ◌+◌, ◌<◌, ◌≤◌, List, [], ◌∷◌, ◌++◌, length, Option, Some, None, sym, ap, subst, ◌∙◌, arith, inl, inr}
use Rattle.std.specs.Prelude.{slice_get}
use Rattle.std.proofs.lemmas.List.{length-append}
use Rattle.bv_terms.specs.TermTrees.{IsTerm, Term, constant}
use Rattle.query_laws.specs.Broken.{IsBroken as Breaks}
use Rattle.query_laws.specs.Candidates.{IsCandidate, IsFalseBy}
use Rattle.query_laws.specs.Rounds.{IsWithin, of_goal, Progress}
use Rattle.cnf_core.specs.declared.certificates.Instance.{Instance}
use Rattle.cnf_core.specs.declared.log.Log.{Log}
use Rattle.cocoon_num.specs.Tree.{AssumeDecl, Design}
use Rattle.cocoon_resolve.specs.Readers.{all_assumptions, assumptions_to}
use Rattle.discharge.specs.Answering.{AnswersTo, IsSpentOn}
use Rattle.discharge.specs.Meeting.{IsFalseAt, OfTables}
use Rattle.discharge.specs.Queries.{assumption_query}
use Rattle.discharge.specs.declared.meeting.Met.TheVariants as met
use Rattle.fun_instances.specs.AssumptionTerms.{value_term}
use Rattle.fun_instances.specs.Taking.{NumbersFit, OfAssumption}
use Rattle.query_laws.specs.Certified.{HasTooMany, IsSatisfiable}
use Rattle.query_laws.specs.Queries.{Fits, instance_term, query}
use Rattle.refinement.specs.Assumptions.{Meets}
use Rattle.bv_terms.specs.WithRows.{Tables}
use Rattle.candidates.specs.Flat.{MakesFormulaTrue}
use Rattle.rounds.specs.Outcomes.{IsAsked, IsSpentAfter, ShowsNeverTrue, Tells}
use Rattle.rounds.specs.Steps.{CanBeTrue, IsBroken, IsFoundBy, IsInstance, IsRefuted, IsSolved}
use Rattle.rounds.specs.declared.asking.Satisfied.{Satisfied as Solved}
use Rattle.rounds.specs.declared.judging.Judged.{Judged}
use Rattle.rounds.specs.declared.outcome.Outcome.{Outcome}
use Rattle.rounds.specs.declared.outcome.Outcome.TheVariants as outcome
use Rattle.rounds.specs.declared.outcome.Query.TheVariants.{Assumption, Goal}
use Rattle.rounds.specs.declared.searching.Round.{Round}
use Rattle.rounds.specs.declared.searching.Round.TheVariants.{Ended, Broken}
use Rattle.rounds.proofs.Witnesses.{as-many, formula-true, its-inputs}

-- ---- which of two candidates it is

pub either : (P : Judged → Type 0) (a b r : Judged) → P a → P b → (r ≡ a) ⊎ (r ≡ b) → P r
either P a b r p q (inl e) = subst P (sym e) p
either P a b r p q (inr e) = subst P (sym e) q

-- ---- terms of instances

pub its_term : (d : Design) (i : Instance) (a : AssumeDecl) → slice_get (all_assumptions d) i.number ≡ Some a → instance_term d i ≡ value_term d a i.values
its_term d i a at = ap (λ (o : Option AssumeDecl). elim o as (λ x. Term) [ None ↦ constant 1 1 | Some x ↦ value_term d x i.values ]) at

-- ---- what a query tells

module _ (d : Design) (level : ℕ) (formula : Term) (instances : List Instance) (conflicts rounds : ℕ) (within : IsWithin d level formula rounds (of_goal instances)) where
  pub shows_never_true : (log : Log) → IsRefuted d level formula instances conflicts log → (is : List Instance) → is ≡ instances → ShowsNeverTrue d level formula conflicts rounds (record { instances = is; log = log })
  shows_never_true log h is same = subst (λ xs. ShowsNeverTrue d level formula conflicts rounds (record { instances = xs; log = log })) (sym same) (record {
    within = within;
    certified = record { fit = within.progress.fit; derives = record { cnf = h.refuted.cnf; clauses = h.refuted.clauses; derives = h.refuted.refutation.derives } };
    refuted = h.refuted;
    never_true = h.never_true;
  })

  pub goal_asked : (P : Term → Type 0) → P (query d level formula instances) → (is : List Instance) → is ≡ instances → IsAsked d level formula rounds (Goal is) P
  goal_asked P said is same = subst (λ xs. IsAsked d level formula rounds (Goal xs) P) (sym same) (record { allowed = (within, tt); said = said })

-- ---- rounds gone by

module _ (d : Design) (level : ℕ) (formula : Term) where
  pub still_within : (rounds : ℕ) (is : List Instance) (gone : ℕ) → length is ≡ gone → gone ≤ rounds → Progress d level formula is → IsWithin d level formula rounds (of_goal is)
  still_within rounds is gone count few progress = let fit : length is ≤ rounds = omega (arith, count, few) in record { few = fit; progress = progress }

  -- one instance more
  pub longer : (given is pushed : List Instance) (i : Instance) (gone : ℕ) → is ≡ given → pushed ≡ is ++ i ∷ [] → length given ≡ gone → length pushed ≡ gone + 1
  longer given is pushed i gone same e count =
      let a = ap length e ∙ length-append is (i ∷ []) in
      let b = ap length same in
      omega (arith, a, b, count)

  pub one_more : (given is pushed : List Instance) (i : Instance) → IsBroken d level formula given is i → pushed ≡ is ++ i ∷ [] → Progress d level formula pushed
  one_more given is pushed i h e = subst (Progress d level formula) (sym (e ∙ ap (λ xs. xs ++ i ∷ []) h.same)) h.progress

  pub can_be_true : (given : List Instance) → IsSatisfiable (query d level formula given) → (r : Round) → CanBeTrue d level formula given r
  can_be_true given s (Ended outcome) = tt
  can_be_true given s (Broken is i values) = s

  pub spent_rounds : (given is spent : List Instance) (i : Instance) (rounds : ℕ) → length given ≡ rounds → Progress d level formula given → IsBroken d level formula given is i → IsSatisfiable (query d level formula given) → spent ≡ is
      → IsSpentAfter d level formula rounds spent
  spent_rounds given is spent i rounds all progress h s e =
      subst (IsSpentAfter d level formula rounds) (sym (e ∙ h.same)) (record { all = all; progress = progress; satisfiable = s })

-- ---- what a candidate tells

module _ (d : Design) (level : ℕ) (formula : Term) (instances : List Instance) (conflicts rounds : ℕ) (within : IsWithin d level formula rounds (of_goal instances)) (tables : Tables) (candidate : IsCandidate d level formula instances tables) where
  module _ (m : Solved) (solved : IsSolved d level formula instances m) (there : length m.own.inputs ≤ length m.inputs)
      (makes : MakesFormulaTrue d m.own.terms m.own.applied m.inputs m.assignment tables) (met : OfTables d tables (Meets level d)) where
    pub found : (o : Outcome) → IsFoundBy m tables instances o → Tells d level formula conflicts rounds o
    found (outcome.Found f) h = record {
      within = subst (λ is. IsWithin d level formula rounds (of_goal is)) (sym h.instances_) within;
      candidate = subst (λ is. IsCandidate d level formula is f.defs) (sym h.instances_) (subst (IsCandidate d level formula instances) (sym h.defs) candidate);
      met = subst (λ ts. OfTables d ts (Meets level d)) (sym h.defs) met;
      inputs = its-inputs d level formula instances m solved tables instances f h;
      values = as-many d level formula instances m solved tables instances f h there;
      formula_ = formula-true d level formula instances m solved tables instances f h makes;
    }
    found (outcome.Holds cert) h = absurd h
    found (outcome.SpentConflicts q vars log) h = absurd h
    found (outcome.SpentRounds is) h = absurd h
    found (outcome.Big q count) h = absurd h

  one_assumption : (i : ℕ) (a b : AssumeDecl) → slice_get (all_assumptions d) i ≡ Some a → slice_get (all_assumptions d) i ≡ Some b → a ≡ b
  one_assumption i a b p q = let e : Some a ≡ Some b = sym p ∙ q in cc

  asked : (P : Term → Type 0) (i : ℕ) → i < length (assumptions_to level d) → OfAssumption d i (λ a. P (assumption_query d a tables)) → (is : List Instance) → is ≡ instances → IsAsked d level formula rounds (Assumption i tables is) P
  asked P i among said is same = record {
    allowed = (
      record { few = subst (λ xs. length xs ≤ rounds) (sym same) within.few; progress = subst (Progress d level formula) (sym same) within.progress },
      (among, subst (λ xs. IsCandidate d level formula xs tables) (sym same) candidate),
    );
    said = said;
  }

  pub spent : (i vars : ℕ) (log : Log) → AnswersTo d level tables conflicts (met.SpentConflicts i vars log) → (is : List Instance) → is ≡ instances
      → Tells d level formula conflicts rounds (outcome.SpentConflicts (Assumption i tables is) vars log)
  spent i vars log h is same = asked (λ g. IsSpentOn g conflicts vars log) i h.0
      (λ a at. subst (λ x. IsSpentOn (assumption_query d x tables) conflicts vars log) (one_assumption i h.1.assumption a h.1.is at) h.1.said) is same

  pub big : (i count : ℕ) → AnswersTo d level tables conflicts (met.Big i count) → (is : List Instance) → is ≡ instances → Tells d level formula conflicts rounds (outcome.Big (Assumption i tables is) count)
  big i count h is same = asked (λ g. HasTooMany g count) i h.0
      (λ a at. subst (λ x. HasTooMany (assumption_query d x tables) count) (one_assumption i h.1.assumption a h.1.is at) (record { count_is = h.1.said.count_is; too_many = h.1.said.too_many })) is same

  -- ---- an instance that is broken

  -- the laws that are cited
  pub record Laws : Type 0 where
    pub fits : (i : Instance) → OfAssumption d i.number (λ a. Breaks d tables a i.values → NumbersFit a i.values)
    pub untrue : (i : Instance) → OfAssumption d i.number (λ a. Breaks d tables a i.values → IsTerm (instance_term d i) → IsFalseBy tables (instance_term d i))
    pub more : (i : Instance) → Fits d level i → IsFalseBy tables (instance_term d i) → Progress d level formula (instances ++ i ∷ [])

  module _ (laws : Laws) (i : ℕ) (values : List ℕ) (broken : AnswersTo d level tables conflicts (met.Broken i values)) where
    abbrev here : Instance
    here = record { number = i; values = values }

    breaks : OfAssumption d i (λ a. Breaks d tables a values)
    breaks a at es h s =
        let k = subst (λ x. OfTables d tables (λ defs. IsFalseAt d defs x values)) (one_assumption i broken.1.assumption a broken.1.is at) broken.1.said es h s in
        (k.env, k.bound, k.is_false)

    pub numbers_fit : OfAssumption d i (λ a. NumbersFit a values)
    numbers_fit a at = laws.fits here a at (breaks a at)

    progress : (x : Instance) → x ≡ here → IsTerm (instance_term d x) → Progress d level formula (instances ++ x ∷ [])
    progress x same term =
        let a = broken.1.assumption in
        let untrue = laws.untrue here a broken.1.is (breaks a broken.1.is) (subst (λ y. IsTerm (instance_term d y)) same term) in
        laws.more x (subst (Fits d level) (sym same) (record { among = broken.0; values = numbers_fit })) (subst (λ y. IsFalseBy tables (instance_term d y)) (sym same) untrue)

    pub round : (is : List Instance) → is ≡ instances → (x : Instance) → IsInstance d i values x → IsBroken d level formula instances is x
    round is same x h = record { same = same; progress = progress x h.of h.term }
