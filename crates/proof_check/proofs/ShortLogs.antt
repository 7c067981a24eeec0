-- A licensed log is short: its clauses have numbers of their own, and none has the number of the empty clause.
use Rattle.std.proofs.Common.{◌≡◌, ℕ, zero, suc, ◌^◌, ◌<◌, ℤ, true, false, List, [], ◌∷◌, ◌++◌, length, get_or, map, take, Some, option_map, sym, ap, ◌∙◌, subst, arith, inl, inr}
use Rattle.std.specs.Prelude.{◌==◌, slice_get, IsFalse}
use Rattle.std.specs.List.{All, list_any}
use Rattle.std.proofs.lemmas.Bool.{false≢true, both_ways, eqb-true, false_from_ne_true, or_cases}
use Rattle.std.proofs.lemmas.List.{length-map}
use Rattle.std.proofs.lemmas.List.Elements.{All-tail}
use Rattle.std.proofs.lemmas.Map.Keys.{IsDistinct-from_apart}
use Rattle.std.proofs.lemmas.Map.Steps.{length-le_from_distinct_below}
use Rattle.std.proofs.lemmas.Option.{none-some, same_Some, slice_get_within, get_or_from_slice_get, slice_get-map}
use Rattle.cnf_core.specs.Clauses.{literals}
use Rattle.cnf_core.specs.Deriving.{IsProper, known}
use Rattle.cnf_core.specs.Licensing.{IsNew, Licensed, subsumed_by}
use Rattle.cnf_core.specs.declared.clauses.Cnf.{Cnf}
use Rattle.cnf_core.specs.declared.log.Log.{Log}
use Rattle.cnf_core.specs.declared.log.Step.{Step}
use Rattle.proof_check.proofs.ClauseNumbers.{clause_number, number-below, number-empty, number-zero, same-number}

-- ---- the clauses known before a step

all-second : {X : Type 0} (P : X → Type 0) (xs ys : List X) → All P (xs ++ ys) → All P ys
all-second P [] ys h = h
all-second P (x ∷ xs) ys h = all-second P xs ys (All-tail P x (xs ++ ys) h)

at-some : {X : Type 0} (P : X → Type 0) (xs : List X) (k : ℕ) (x : X) → All P xs → slice_get xs k ≡ Some x → P x
at-some P xs k x h e = subst P (get_or_from_slice_get xs k x x e) (h k x (slice_get_within xs k x e))

taken : (steps : List Step) (j k : ℕ) (s : Step) → j < k → slice_get steps j ≡ Some s → slice_get (map (λ s. literals s.clause) (take k steps)) j ≡ Some (literals s.clause)
taken [] j k s h e = absurd (none-some s e)
taken (x ∷ xs) j zero s h e = absurd (omega (arith, h))
taken (x ∷ xs) zero (suc k) s h e = ap (λ y. Some (literals y.clause)) (same_Some x s e)
taken (x ∷ xs) (suc j) (suc k) s h e = taken xs j k s (omega (arith, h)) e

-- a new clause has not all literals of the clause of an earlier step
new-after : (cnf : Cnf) (steps : List Step) (j k : ℕ) (s : Step) (clause : List ℤ) → j < k → slice_get steps j ≡ Some s → IsNew (known cnf (take k steps)) clause
    → subsumed_by clause (literals s.clause) ≡ false
new-after cnf steps j k s clause h e new = at-some (λ other. IsFalse (subsumed_by clause other)) (map (λ s. literals s.clause) (take k steps)) j (literals s.clause)
    (all-second (λ other. IsFalse (subsumed_by clause other)) (map literals cnf.clauses) (map (λ s. literals s.clause) (take k steps)) new.1) (taken steps j k s h e)

-- ---- the numbers of the steps

abbrev step_number : ℕ → Step → ℕ
step_number vars s = clause_number vars (literals s.clause)

numbers-below : (vars q : ℕ) (steps : List Step) → list_any (λ m. q == m) (map (step_number vars) steps) ≡ true → q < 3 ^ vars
numbers-below vars q [] h = absurd (false≢true h)
numbers-below vars q (s ∷ ss) h = elim (or_cases (q == step_number vars s) (list_any (λ m. q == m) (map (step_number vars) ss)) h) [
  | inl e ↦ subst (λ n. n < 3 ^ vars) (sym (eqb-true q (step_number vars s) e)) (number-below vars (literals s.clause))
  | inr e ↦ numbers-below vars q ss e
]

module _ (cnf : Cnf) (log : Log) (count : ℕ) (licensed : Licensed cnf log count) where
  abbrev numbers : List ℕ
  numbers = map (step_number cnf.vars) log.steps

  record Stood (k : ℕ) : Type 0 where
    step : Step
    there : slice_get log.steps k ≡ Some step
    proper : IsProper cnf.vars (literals step.clause)
    new : IsNew (known cnf (take k log.steps)) (literals step.clause)

  stood : (k : ℕ) → k < count → Stood k
  stood k h =
      let brings = licensed.new k h in
      let derived = licensed.derived k (omega (arith, h, licensed.exactly)) in
      let one : derived.0 ≡ brings.0 = same_Some derived.0 brings.0 (sym derived.1 ∙ brings.1) in
      record { step = brings.0; there = brings.1; proper = subst (λ s. IsProper cnf.vars (literals s.clause)) one derived.2.proper; new = brings.2 }

  number-at : (k d : ℕ) (s : Step) → slice_get log.steps k ≡ Some s → get_or numbers k d ≡ step_number cnf.vars s
  number-at k d s e = get_or_from_slice_get numbers k (step_number cnf.vars s) d (slice_get-map (step_number cnf.vars) log.steps k ∙ ap (option_map (step_number cnf.vars)) e)

  apart : (i j d : ℕ) → i < j → j < length numbers → (get_or numbers i d == get_or numbers j d) ≡ false
  apart i j d h lt =
      let within : j < count = omega (arith, lt, licensed.exactly, length-map log.steps (step_number cnf.vars)) in
      let first = stood i (omega (arith, h, within)) in
      let second = stood j within in
      false_from_ne_true (get_or numbers i d == get_or numbers j d) (λ e.
      both_ways _ (new-after cnf log.steps i j first.step (literals second.step.clause) h first.there second.new)
      (same-number cnf.vars (literals second.step.clause) (literals first.step.clause) first.proper
      (sym (number-at j d second.step second.there) ∙ sym (eqb-true _ _ e) ∙ number-at i d first.step first.there)))

  not-zero : (i d : ℕ) → i < length numbers → (0 == get_or numbers i d) ≡ false
  not-zero i d lt =
      let here = stood i (omega (arith, lt, licensed.exactly, length-map log.steps (step_number cnf.vars))) in
      false_from_ne_true (0 == get_or numbers i d) (λ e.
      here.new.0 (number-zero cnf.vars (literals here.step.clause) here.proper (sym (number-at i d here.step here.there) ∙ sym (eqb-true 0 (get_or numbers i d) e))))

  all-apart : (i j d : ℕ) → i < j → j < length (0 ∷ numbers) → (get_or (0 ∷ numbers) i d == get_or (0 ∷ numbers) j d) ≡ false
  all-apart i zero d h lt = absurd (omega (arith, h))
  all-apart zero (suc j) d h lt = not-zero j d (omega (arith, lt))
  all-apart (suc i) (suc j) d h lt = apart i j d (omega (arith, h)) (omega (arith, lt))

  all-below : (q : ℕ) → list_any (λ m. q == m) (0 ∷ numbers) ≡ true → q < 3 ^ cnf.vars
  all-below q h = elim (or_cases (q == 0) (list_any (λ m. q == m) numbers) h) [
    | inl e ↦ let is = eqb-true q 0 e in subst (λ n. n < 3 ^ cnf.vars) (sym is) (subst (λ n. n < 3 ^ cnf.vars) (number-empty cnf.vars) (number-below cnf.vars []))
    | inr e ↦ numbers-below cnf.vars q log.steps e
  ]

  short-one : count < 3 ^ cnf.vars
  short-one =
      let bound = length-le_from_distinct_below (0 ∷ numbers) (3 ^ cnf.vars) (IsDistinct-from_apart (λ x y. x == y) (0 ∷ numbers) all-apart) all-below in
      omega (arith, bound, licensed.exactly, length-map log.steps (step_number cnf.vars))

pub short : (cnf : Cnf) (log : Log) (count : ℕ) → Licensed cnf log count → count < 3 ^ cnf.vars
short cnf log count licensed = short-one cnf log count licensed
