-- The reasons of a trail that is cut back, with one clause more; and logs with one step more.
use Rattle.std.proofs.Common.{◌≡◌, ℕ, zero, suc, ◌+◌, ◌==◌, ◌<◌, ◌≤◌, ℤ, pos, true, false, List, [], ◌∷◌, ◌++◌, length, get_or, take, map, min, Option, Some, refl, sym, ap, ◌∙◌, subst, arith, inl, inr}
use Rattle.std.specs.Prelude.{slice_get}
use Rattle.std.proofs.lemmas.Bool.{cases_lt, cases_eq, both_ways, or_cases, or_left, or_right, false≢true, false_from_ne_true, eqb-true, eq-eqb}
use Rattle.std.proofs.lemmas.List.{append_assoc, get_or-take, length-take, length_push, map-append, take-append-le, take-take, take_at}
use Rattle.std.proofs.lemmas.List.Elements.{All-append, All-cons, All-nil}
use Rattle.std.proofs.lemmas.Option.{none-some}
use Rattle.cocoon_num.specs.Lists.{has_number}
use Rattle.cnf_core.specs.Clauses.{literals}
use Rattle.cnf_core.specs.Deriving.{Derived, EachDerived, Follows, forces, known}
use Rattle.cnf_core.specs.Licensing.{BringsNew, IsNew}
use Rattle.cnf_core.specs.Trails.{HasStatus, literal_at}
use Rattle.cnf_core.specs.declared.clauses.Cnf.{Cnf}
use Rattle.cnf_core.specs.declared.log.Step.{Step}
use Rattle.cnf_core.specs.declared.clause_status.ClauseStatus.TheVariants.{Open}
use Rattle.cdcl.specs.Searching.{IsClosed, IsReasoned}

-- ---- lists with one more

pub get-prefix : {A : Type 0} (xs ys : List A) (k : ℕ) (x : A) → slice_get xs k ≡ Some x → slice_get (xs ++ ys) k ≡ Some x
get-prefix [] ys k x e = absurd (none-some x e)
get-prefix (a ∷ xs) ys zero x e = e
get-prefix (a ∷ xs) ys (suc k) x e = get-prefix xs ys k x e

pub get-last : {A : Type 0} (xs : List A) (x : A) → slice_get (xs ++ x ∷ []) (length xs) ≡ Some x
get-last [] x = refl
get-last (a ∷ xs) x = get-last xs x

pub get-taken : {A : Type 0} (xs : List A) (n k : ℕ) → k < n → slice_get (take n xs) k ≡ slice_get xs k
get-taken [] zero k lt = refl
get-taken [] (suc n) k lt = refl
get-taken (a ∷ xs) zero k lt = absurd (omega (arith, lt))
get-taken (a ∷ xs) (suc n) zero lt = refl
get-taken (a ∷ xs) (suc n) (suc k) lt = get-taken xs n k (omega (arith, lt))

-- ---- places of decisions

number-place : (p : ℕ) (ss : List ℕ) → has_number p ss ≡ true → (i : ℕ) × (i < length ss) × (get_or ss i 0 ≡ p)
number-place p [] h = absurd (false≢true h)
number-place p (s ∷ ss) h = elim (or_cases (p == s) (has_number p ss) h) [
  | inl e ↦ (0, omega arith, sym (eqb-true p s e))
  | inr e ↦ let r = number-place p ss e in (suc r.0, omega (arith, r.1), r.2)
]

number-taken : (p b i : ℕ) (ss : List ℕ) → i < b → i < length ss → get_or ss i 0 ≡ p → has_number p (take b ss) ≡ true
number-taken p b i [] less lt e = absurd (omega (arith, lt))
number-taken p zero i (s ∷ ss) less lt e = absurd (omega (arith, less))
number-taken p (suc b) zero (s ∷ ss) less lt e = or_left (p == s) (has_number p (take b ss)) (eq-eqb p s (sym e))
number-taken p (suc b) (suc i) (s ∷ ss) less lt e = or_right (p == s) (has_number p (take b ss)) (number-taken p b i ss (omega (arith, less)) (omega (arith, lt)) e)

-- what stands after the last decision is none
pub after-last : (clauses : List (List ℤ)) (ts : List ℤ) (reasons : List (Option ℕ)) (starts : List ℕ) → IsReasoned clauses ts reasons starts → (last p : ℕ) → length starts ≡ last + 1
    → get_or starts last 0 + 1 ≤ p → has_number p starts ≡ false
after-last clauses ts reasons starts h last p len le = false_from_ne_true (has_number p starts) (λ on.
    let r = number-place p starts on in
    elim (cases_lt r.0 last) [
      | inl before ↦ omega (arith, h.rising r.0 last before (omega (arith, len)), r.2, le)
      | inr above ↦ let is : r.0 ≡ last = omega (arith, r.1, above, len) in omega (arith, ap (λ i. get_or starts i 0) is, r.2, le)
    ])

-- ---- back to a level

module _ (clauses : List (List ℤ)) (ts : List ℤ) (reasons : List (Option ℕ)) (starts : List ℕ) (h : IsReasoned clauses ts reasons starts) (b cut : ℕ) (within : b < length starts) (is : get_or starts b 0 ≡ cut) where
  pub cut-within : cut < length ts
  cut-within = omega (arith, is, h.under b within)

  start-taken : (i : ℕ) → i < length (take b starts) → (i < b) × (get_or (take b starts) i 0 ≡ get_or starts i 0)
  start-taken i lt = let less : i < b = omega (arith, lt, length-take b starts) in (less, get_or-take b starts i 0 less)

  pub start-before : (i : ℕ) → i < b → get_or starts i 0 < cut
  start-before i less = omega (arith, is, h.rising i b less within)

  not-decided : (p : ℕ) → p < cut → has_number p (take b starts) ≡ false → has_number p starts ≡ false
  not-decided p lt none = false_from_ne_true (has_number p starts) (λ on.
      let r = number-place p starts on in
      elim (cases_lt r.0 b) [
        | inl before ↦ both_ways (has_number p (take b starts)) none (number-taken p b r.0 starts before r.1 r.2)
        | inr above ↦ elim (cases_eq r.0 b) [
          | inl same_start ↦ omega (arith, ap (λ i. get_or starts i 0) same_start, r.2, is, lt)
          | inr later ↦ omega (arith, h.rising b r.0 (omega (arith, above, later)) r.1, r.2, is, lt)
        ]
      ])

  pub reasoned-back : IsReasoned clauses (take cut ts) (take cut reasons) (take b starts)
  reasoned-back = record {
    sized = length-take cut reasons ∙ ap (min cut) h.sized ∙ sym (length-take cut ts);
    forced = λ p lt none.
        let less : p < cut = omega (arith, lt, length-take cut ts) in
        let f = h.forced p (omega (arith, less, cut-within)) (not-decided p less none) in
        let g = f.2 in (
          f.0,
          get-taken reasons cut p less ∙ f.1,
          (
            g.0,
            g.1,
            subst (λ us. forces us g.0 (literal_at (take cut ts) p) ≡ true) (sym (take-take p cut ts (omega (arith, less))))
                (subst (λ l. forces (take p ts) g.0 l ≡ true) (sym (get_or-take cut ts p (pos 0) less)) g.2),
          ),
        );
    rising = λ i j less lt.
        let at_j = start-taken j lt in
        let at_i = get_or-take b starts i 0 (omega (arith, less, at_j.0)) in
        omega (arith, at_i, at_j.1, h.rising i j less (omega (arith, at_j.0, within)));
    under = λ i lt. let at_i = start-taken i lt in omega (arith, at_i.1, start-before i at_i.0, length-take cut ts, cut-within);
    closed = λ i lt.
        let at_i = start-taken i lt in
        let early = start-before i at_i.0 in
        subst (λ s. IsClosed clauses (take s (take cut ts))) (sym at_i.1)
        (subst (IsClosed clauses) (sym (take-take (get_or starts i 0) cut ts (omega (arith, early)))) (h.closed i (omega (arith, at_i.0, within))));
  }

pub reasoned-cut : (clauses : List (List ℤ)) (ts us : List ℤ) (reasons rs : List (Option ℕ)) (starts ss : List ℕ) (b cut : ℕ) → IsReasoned clauses ts reasons starts
    → b < length starts → get_or starts b 0 ≡ cut → us ≡ take cut ts → rs ≡ take cut reasons → ss ≡ take b starts → IsReasoned clauses us rs ss
reasoned-cut clauses ts us reasons rs starts ss b cut h within is k m n =
    subst (λ vs. IsReasoned clauses vs rs ss) (sym k)
    (subst (λ qs. IsReasoned clauses (take cut ts) qs ss) (sym m)
    (subst (λ bs. IsReasoned clauses (take cut ts) (take cut reasons) bs) (sym n)
    (reasoned-back clauses ts reasons starts h b cut within is)))

-- ---- one clause more, which forced nothing where a decision was made

pub reasoned-clause : (clauses : List (List ℤ)) (c : List ℤ) (ts : List ℤ) (reasons : List (Option ℕ)) (starts : List ℕ) → IsReasoned clauses ts reasons starts
    → ((i : ℕ) → i < length starts → HasStatus (take (get_or starts i 0) ts) c Open) → IsReasoned (clauses ++ c ∷ []) ts reasons starts
reasoned-clause clauses c ts reasons starts h unforced = record {
  sized = h.sized;
  forced = λ p lt none.
      let f = h.forced p lt none in
      let g = f.2 in (f.0, f.1, (g.0, get-prefix clauses (c ∷ []) f.0 g.0 g.1, g.2));
  rising = h.rising;
  under = h.under;
  closed = λ i lt. All-append (λ d. HasStatus (take (get_or starts i 0) ts) d Open) clauses (c ∷ []) (h.closed i lt)
      (All-cons (λ d. HasStatus (take (get_or starts i 0) ts) d Open) c [] (unforced i lt) (All-nil (λ d. HasStatus (take (get_or starts i 0) ts) d Open)));
}

-- ---- a log with one step more

pub known-push : (cnf : Cnf) (steps : List Step) (s : Step) → known cnf steps ++ literals s.clause ∷ [] ≡ known cnf (steps ++ s ∷ [])
known-push cnf steps s = append_assoc (map literals cnf.clauses) (map (λ (s : Step). literals s.clause) steps) (literals s.clause ∷ [])
    ∙ ap (λ r. map literals cnf.clauses ++ r) (sym (map-append (λ (s : Step). literals s.clause) steps (s ∷ [])))

module _ (cnf : Cnf) (steps : List Step) (s : Step) where
  prefix : (k : ℕ) → k < length steps → take k (steps ++ s ∷ []) ≡ take k steps
  prefix k lt = take-append-le k steps (s ∷ []) (omega (arith, lt))

  pub derived-push : EachDerived cnf steps → Follows cnf.vars (known cnf steps) (literals s.clause) s.hints → EachDerived cnf (steps ++ s ∷ [])
  derived-push h f k lt = elim (cases_lt k (length steps)) [
    | inl below ↦ let d = h k below in
        (d.0, get-prefix steps (s ∷ []) k d.0 d.1, subst (λ ss. Follows cnf.vars (known cnf ss) (literals d.0.clause) d.0.hints) (sym (prefix k below)) d.2)
    | inr above ↦ let is : length steps ≡ k = omega (arith, lt, above, length_push steps s) in
        subst (Derived cnf (steps ++ s ∷ [])) is
        (s, get-last steps s, subst (λ ss. Follows cnf.vars (known cnf ss) (literals s.clause) s.hints) (sym (take_at steps (s ∷ []) (length steps) refl)) f)
  ]

  pub new-prefix : ((k : ℕ) → k < length steps → BringsNew cnf steps k) → (k : ℕ) → k < length steps → BringsNew cnf (steps ++ s ∷ []) k
  new-prefix h k below = let d = h k below in
      (d.0, get-prefix steps (s ∷ []) k d.0 d.1, subst (λ ss. IsNew (known cnf ss) (literals d.0.clause)) (sym (prefix k below)) d.2)

  pub new-push : ((k : ℕ) → k < length steps → BringsNew cnf steps k) → IsNew (known cnf steps) (literals s.clause)
      → (k : ℕ) → k < length (steps ++ s ∷ []) → BringsNew cnf (steps ++ s ∷ []) k
  new-push h n k lt = elim (cases_lt k (length steps)) [
    | inl below ↦ new-prefix h k below
    | inr above ↦ let is : length steps ≡ k = omega (arith, lt, above, length_push steps s) in
        subst (BringsNew cnf (steps ++ s ∷ [])) is
        (s, get-last steps s, subst (λ ss. IsNew (known cnf ss) (literals s.clause)) (sym (take_at steps (s ∷ []) (length steps) refl)) n)
  ]
