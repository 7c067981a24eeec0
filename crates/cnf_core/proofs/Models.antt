-- What a log derives is true wherever the clauses are.
use Rattle.std.proofs.Common.{◌≡◌, ℕ, zero, suc, ◌+◌, ◌-◌, ◌<◌, ◌≤◌, ℤ, pos, negsuc, Bool, true, false, not, ◌&&◌, ◌||◌, List, [], ◌∷◌, ◌++◌, length, map, take, Some, refl, sym, ap, ◌∙◌, subst, arith, inl, inr}
use Rattle.std.specs.Prelude.{slice_get, slice_index_or}
use Rattle.std.specs.List.{All, list_any}
use Rattle.std.proofs.lemmas.Bool.{false≢true, both_ways, or_cases, or_parts, or_from, and_parts, and_from, cases_Bool, not-true}
use Rattle.std.proofs.lemmas.List.{take_more}
use Rattle.std.proofs.lemmas.List.Elements.{All-head, All-tail, All-nil, All-cons, All-append, All-map}
use Rattle.std.proofs.lemmas.Option.{none-some, same_Some, slice_get_within, get_or_from_slice_get}
use Rattle.cocoon_num.specs.Lists.{each}
use Rattle.cnf_core.specs.Clauses.{literals}
use Rattle.cnf_core.specs.Literals.{Names, has_literal, opposite, same, variable}
use Rattle.cnf_core.specs.Satisfying.{Satisfies, WellNamed, makes_true}
use Rattle.cnf_core.specs.Deriving.{Derives, EachDerived, Follows, Refutes, has_no_value, is_false, known}
use Rattle.cnf_core.specs.declared.clauses.Assignment.{Assignment}
use Rattle.cnf_core.specs.declared.clauses.Cnf.{Cnf}
use Rattle.cnf_core.specs.declared.log.Log.{Log}
use Rattle.cnf_core.specs.declared.log.Step.{Step}
use Rattle.cnf_core.proofs.LiteralFacts.{same-is}

-- ---- one assignment

module _ (a : Assignment) where
  true-opposite : (l : ℤ) → 1 ≤ variable l → makes_true a (opposite l) ≡ not (makes_true a l)
  true-opposite (pos zero) h = absurd (omega (arith, h))
  true-opposite (pos (suc n)) h = let before : n ≡ suc n - 1 = omega arith in ap (λ k. not (slice_index_or a.values k false)) before
  true-opposite (negsuc n) h = let before : suc n - 1 ≡ n = omega arith in
      ap (λ k. slice_index_or a.values k false) before ∙ twice (slice_index_or a.values n false)
    where
      twice : (b : Bool) → b ≡ not (not b)
      twice true = refl
      twice false = refl

  false-opposite : (l : ℤ) → 1 ≤ variable l → makes_true a (opposite l) ≡ true → makes_true a l ≡ false
  false-opposite l h e = not-true (makes_true a l) (sym (true-opposite l h) ∙ e)

  AllTrue : List ℤ → Type 0
  AllTrue ls = each (makes_true a) ls ≡ true

  has-true : (ls : List ℤ) (l : ℤ) → each (makes_true a) ls ≡ true → has_literal ls l ≡ true → makes_true a l ≡ true
  has-true [] l h e = absurd (false≢true e)
  has-true (m ∷ ls) l h e = let parts = and_parts (makes_true a m) (each (makes_true a) ls) h in
      elim (or_cases (same l m) (has_literal ls l) e) [
        | inl here ↦ ap (makes_true a) (same-is l m here) ∙ parts.0
        | inr there ↦ has-true ls l parts.1 there
      ]

  each-more : (ls : List ℤ) (l : ℤ) → each (makes_true a) ls ≡ true → makes_true a l ≡ true → each (makes_true a) (ls ++ l ∷ []) ≡ true
  each-more [] l h e = and_from (makes_true a l) true e refl
  each-more (m ∷ ls) l h e = let parts = and_parts (makes_true a m) (each (makes_true a) ls) h in
      and_from (makes_true a m) (each (makes_true a) (ls ++ l ∷ [])) parts.0 (each-more ls l parts.1 e)

  each-opposite : (vars : ℕ) (ls : List ℤ) → All (Names vars) ls → list_any (makes_true a) ls ≡ false → each (makes_true a) (map opposite ls) ≡ true
  each-opposite vars [] named h = refl
  each-opposite vars (l ∷ ls) named h = let parts = or_parts (makes_true a l) (list_any (makes_true a) ls) h in
      and_from (makes_true a (opposite l)) (each (makes_true a) (map opposite ls))
      (true-opposite l (All-head (Names vars) l ls named).0 ∙ ap not parts.0) (each-opposite vars ls (All-tail (Names vars) l ls named) parts.1)

  -- a literal that is false on the trail is false
  false-here : (ts : List ℤ) (l : ℤ) → 1 ≤ variable l → each (makes_true a) ts ≡ true → is_false ts l ≡ true → makes_true a l ≡ false
  false-here ts l h t e = false-opposite l h (has-true ts (opposite l) t e)

  none-true : (vars : ℕ) (ts ls : List ℤ) → All (Names vars) ls → each (makes_true a) ts ≡ true → each (is_false ts) ls ≡ true → list_any (makes_true a) ls ≡ false
  none-true vars ts [] named t h = refl
  none-true vars ts (l ∷ ls) named t h = let parts = and_parts (is_false ts l) (each (is_false ts) ls) h in
      or_from (makes_true a l) (list_any (makes_true a) ls)
      (false-here ts l (All-head (Names vars) l ls named).0 t parts.0) (none-true vars ts ls (All-tail (Names vars) l ls named) t parts.1)

  forced-true : (vars : ℕ) (ts ls : List ℤ) (l : ℤ) → All (Names vars) ls → each (makes_true a) ts ≡ true
      → each (λ m. same l m || is_false ts m) ls ≡ true → list_any (makes_true a) ls ≡ true → makes_true a l ≡ true
  forced-true vars ts [] l named t h e = absurd (false≢true e)
  forced-true vars ts (m ∷ ls) l named t h e = let parts = and_parts (same l m || is_false ts m) (each (λ m. same l m || is_false ts m) ls) h in
      elim (or_cases (makes_true a m) (list_any (makes_true a) ls) e) [
        | inl here ↦ elim (or_cases (same l m) (is_false ts m) parts.0) [
          | inl is ↦ ap (makes_true a) (same-is l m is) ∙ here
          | inr off ↦ absurd (both_ways (makes_true a m) (false-here ts m (All-head (Names vars) m ls named).0 t off) here)
        ]
        | inr there ↦ forced-true vars ts ls l (All-tail (Names vars) m ls named) t parts.1 there
      ]

  -- ---- clauses that are true

  record Sound (vars : ℕ) (ls : List ℤ) : Type 0 where
    holds : list_any (makes_true a) ls ≡ true
    named : All (Names vars) ls

  at-some : (P : List ℤ → Type 0) (cs : List (List ℤ)) (k : ℕ) (c : List ℤ) → All P cs → slice_get cs k ≡ Some c → P c
  at-some P cs k c h e = subst P (get_or_from_slice_get cs k c [] e) (h k [] (slice_get_within cs k c e))

  refuted : (vars : ℕ) (cs : List (List ℤ)) (hints : List ℕ) (ts : List ℤ) → All (Sound vars) cs → Refutes cs ts hints → each (makes_true a) ts ≡ true → ⊥
  refuted vars cs [] ts sound r t = r
  refuted vars cs (hint ∷ hints) ts sound r t = let s = at-some (Sound vars) cs hint r.0 sound r.1 in
      elim r.2 [
        | inl last ↦ both_ways (list_any (makes_true a) r.0) (none-true vars ts r.0 s.named t last.1) s.holds
        | inr next ↦ let parts = and_parts (has_literal r.0 next.0) (has_no_value ts next.0 && each (λ m. same next.0 m || is_false ts m) r.0) next.1 in
            let others = and_parts (has_no_value ts next.0) (each (λ m. same next.0 m || is_false ts m) r.0) parts.1 in
            refuted vars cs hints (ts ++ next.0 ∷ []) sound next.2
            (each-more ts next.0 t (forced-true vars ts r.0 next.0 s.named t others.1 s.holds))
      ]

  follows-true : (vars : ℕ) (cs : List (List ℤ)) (c : List ℤ) (hints : List ℕ) → All (Sound vars) cs → Follows vars cs c hints → Sound vars c
  follows-true vars cs c hints sound f = record {
    holds = elim (cases_Bool (list_any (makes_true a) c)) [
      | inl holds ↦ holds
      | inr none ↦ absurd (refuted vars cs hints (map opposite c) sound f.refuted (each-opposite vars c f.proper.named none))
    ];
    named = f.proper.named;
  }

  -- ---- logs

  take_some : (steps : List Step) (k : ℕ) (s : Step) → slice_get steps k ≡ Some s → take (k + 1) steps ≡ take k steps ++ s ∷ []
  take_some steps k s e = take_more steps k s (slice_get_within steps k s e) ∙ ap (λ x. take k steps ++ x ∷ []) (get_or_from_slice_get steps k s s e)

  map-more : (xs : List Step) (s : Step) → map (λ s. literals s.clause) (xs ++ s ∷ []) ≡ map (λ s. literals s.clause) xs ++ literals s.clause ∷ []
  map-more [] s = refl
  map-more (x ∷ xs) s = ap (λ r. literals x.clause ∷ r) (map-more xs s)

  all-known : (cnf : Cnf) (steps : List Step) → WellNamed cnf → Satisfies a cnf → EachDerived cnf steps → (k : ℕ) → k ≤ length steps
      → All (Sound cnf.vars) (map (λ s. literals s.clause) (take k steps))
  all-known cnf steps named sat derived zero h = All-nil (Sound cnf.vars)
  all-known cnf steps named sat derived (suc k) h =
      let before = all-known cnf steps named sat derived k (omega (arith, h)) in
      let d = derived k (omega (arith, h)) in
      let given : All (Sound cnf.vars) (map literals cnf.clauses) =
      All-map (Sound cnf.vars) literals cnf.clauses (λ i c lt. record { holds = sat i c lt; named = named.1 i c lt }) in
      let sound = follows-true cnf.vars (known cnf (take k steps)) (literals d.0.clause) d.0.hints
      (All-append (Sound cnf.vars) (map literals cnf.clauses) (map (λ s. literals s.clause) (take k steps)) given before) d.2 in
      let next : suc k ≡ k + 1 = omega arith in
      subst (All (Sound cnf.vars)) (sym (ap (λ n. map (λ s. literals s.clause) (take n steps)) next ∙ ap (map (λ s. literals s.clause)) (take_some steps k d.0 d.1) ∙ map-more (take k steps) d.0))
      (All-append (Sound cnf.vars) (map (λ s. literals s.clause) (take k steps)) (literals d.0.clause ∷ []) before
      (All-cons (Sound cnf.vars) (literals d.0.clause) [] sound (All-nil (Sound cnf.vars))))

  last-taken : (steps : List Step) (k n : ℕ) (s : Step) → k < n → slice_get steps k ≡ Some s → slice_get (map (λ s. literals s.clause) (take n steps)) k ≡ Some (literals s.clause)
  last-taken [] k n s h e = absurd (none-some s e)
  last-taken (x ∷ xs) k zero s h e = absurd (omega (arith, h))
  last-taken (x ∷ xs) zero (suc n) s h e = ap (λ y. Some (literals y.clause)) (same_Some x s e)
  last-taken (x ∷ xs) (suc k) (suc n) s h e = last-taken xs k n s (omega (arith, h)) e

  pub no-model : (cnf : Cnf) (log : Log) → WellNamed cnf → Derives cnf log → Satisfies a cnf → ⊥
  no-model cnf log named d sat =
      let k = length log.steps - 1 in
      let within = slice_get_within log.steps k d.1.0 d.1.1 in
      let all = all-known cnf log.steps named sat d.0 (k + 1) (omega (arith, within)) in
      let last = at-some (Sound cnf.vars) (map (λ s. literals s.clause) (take (k + 1) log.steps)) k (literals d.1.0.clause) all (last-taken log.steps k (k + 1) d.1.0 (omega arith) d.1.1) in
      false≢true (sym (ap (list_any (makes_true a)) d.1.2) ∙ last.holds)
