-- A learned clause follows from the clauses, and is new.
use Rattle.std.proofs.Common.{◌≡◌, ◌≢◌, ℕ, zero, suc, ◌+◌, ◌==◌, ◌<◌, ◌≤◌, ℤ, Bool, true, false, not, List, [], ◌∷◌, ◌++◌, length, get_or, take, map, reverse, refl, sym, ap, ◌∙◌, subst, arith, ◌⊎◌, inl, inr}
use Rattle.std.specs.List.{All}
use Rattle.std.proofs.lemmas.Bool.{cases_Bool, both_ways, or_from, and_from, false_from_ne_true, not_from_false, ne_eqb}
use Rattle.std.proofs.lemmas.List.{take_all}
use Rattle.std.proofs.lemmas.List.Elements.{All-cons, All-head, All-nil, All-tail}
use Rattle.cocoon_num.specs.Lists.{has_number, no_repeats}
use Rattle.cnf_core.specs.Deriving.{Follows, Refutes, forces, is_conflict, is_false}
use Rattle.cnf_core.specs.Licensing.{IsNew, subsumed_by}
use Rattle.cnf_core.specs.Literals.{Names, has_literal, opposite, variable}
use Rattle.cnf_core.specs.Trails.{IsApart, HasStatus, literal_at}
use Rattle.cnf_core.specs.declared.clause_status.ClauseStatus.TheVariants.{Open}
use Rattle.cdcl.specs.Marks.{Shows, is_marked, marked_literals, opposite_at}
use Rattle.cdcl.specs.Searching.{IsClosed}
use Rattle.cnf_core.proofs.LiteralFacts.{opposite-opposite, variable-opposite}
use Rattle.cnf_core.proofs.ClauseStatuses.{each-has}
use Rattle.cdcl.proofs.Membership.{IsForced, each-from, forced-from, forced-parts, has-take, no-opposite-taken, not-taken, opposite-same, same-place}
use Rattle.cdcl.proofs.Conflicts.{has-opposites, marked-at, marked-place, opposites-has, opposites-twice}

-- ---- it is proper

marked-named : (vars : ℕ) (marks : List Bool) (ts : List ℤ) → All (Names vars) ts → All (Names vars) (map opposite (marked_literals marks ts))
marked-named vars [] ts h = All-nil (Names vars)
marked-named vars (true ∷ marks) [] h = All-nil (Names vars)
marked-named vars (false ∷ marks) [] h = All-nil (Names vars)
marked-named vars (true ∷ marks) (t ∷ ts) h =
    let n = All-head (Names vars) t ts h in
    All-cons (Names vars) (opposite t) (map opposite (marked_literals marks ts))
    (subst (λ v. 1 ≤ v) (sym (variable-opposite t)) n.0, subst (λ v. v ≤ vars) (sym (variable-opposite t)) n.1)
    (marked-named vars marks ts (All-tail (Names vars) t ts h))
marked-named vars (false ∷ marks) (t ∷ ts) h = marked-named vars marks ts (All-tail (Names vars) t ts h)

marked-other : (v : ℕ) (marks : List Bool) (ts : List ℤ) → ((p : ℕ) → p < length ts → v ≢ variable (literal_at ts p)) → has_number v (map variable (map opposite (marked_literals marks ts))) ≡ false
marked-other v [] ts h = refl
marked-other v (true ∷ marks) [] h = refl
marked-other v (false ∷ marks) [] h = refl
marked-other v (true ∷ marks) (t ∷ ts) h = or_from (v == variable (opposite t)) (has_number v (map variable (map opposite (marked_literals marks ts))))
    (ne_eqb v (variable (opposite t)) (λ e. h 0 (omega arith) (e ∙ variable-opposite t)))
    (marked-other v marks ts (λ p lt. h (suc p) (omega (arith, lt))))
marked-other v (false ∷ marks) (t ∷ ts) h = marked-other v marks ts (λ p lt. h (suc p) (omega (arith, lt)))

apart-rest : (t : ℤ) (ts : List ℤ) → IsApart (t ∷ ts) → IsApart ts
apart-rest t ts h p q less lt = h (suc p) (suc q) (omega (arith, less)) (omega (arith, lt))

marked-distinct : (marks : List Bool) (ts : List ℤ) → IsApart ts → no_repeats (map variable (map opposite (marked_literals marks ts))) ≡ true
marked-distinct [] ts h = refl
marked-distinct (true ∷ marks) [] h = refl
marked-distinct (false ∷ marks) [] h = refl
marked-distinct (true ∷ marks) (t ∷ ts) h =
    and_from (not (has_number (variable (opposite t)) (map variable (map opposite (marked_literals marks ts))))) (no_repeats (map variable (map opposite (marked_literals marks ts))))
    (not_from_false (has_number (variable (opposite t)) (map variable (map opposite (marked_literals marks ts))))
    (marked-other (variable (opposite t)) marks ts (λ p lt e. h 0 (suc p) (omega arith) (omega (arith, lt)) (sym (variable-opposite t) ∙ e))))
    (marked-distinct marks ts (apart-rest t ts h))
marked-distinct (false ∷ marks) (t ∷ ts) h = marked-distinct marks ts (apart-rest t ts h)

-- ---- it follows

module _ (clauses : List (List ℤ)) (ts : List ℤ) (apart : IsApart ts) (vars : ℕ) (named : All (Names vars) ts) (marks : List Bool) where
  learned : List ℤ
  learned = map opposite (marked_literals marks ts)

  pub learned-follows : (top : ℕ) (hints : List ℕ) → ((q : ℕ) → q < length ts → is_marked marks q ≡ true → q < top) → Shows clauses ts marks top hints
      → Follows vars clauses (map opposite (marked_literals marks ts)) (reverse hints)
  learned-follows top hints below shows = record {
    proper = record { named = marked-named vars marks ts named; distinct = marked-distinct marks ts apart };
    refuted = subst (λ us. Refutes clauses us (reverse hints)) (sym (opposites-twice (marked_literals marks ts)))
        (shows (marked_literals marks ts) (λ p lt m. marked-at marks ts p lt m)
        (λ l h. let r = marked-place marks ts l h in ap (has_literal (take top ts)) (sym r.3) ∙ has-take ts top r.0 (below r.0 r.1 r.2) r.1));
  }

  -- ---- it is new

  -- one marked literal stands from the cut on, and all others before it
  module _ (u second : ℕ) (within : u < length ts) (marked : is_marked marks u ≡ true)
      (others : (p : ℕ) → p < length ts → is_marked marks p ≡ true → (p ≡ u) ⊎ (p < second)) where
    asserting : has_literal (map opposite (marked_literals marks ts)) (opposite (literal_at ts u)) ≡ true
    asserting = has-opposites (marked_literals marks ts) (literal_at ts u) (marked-at marks ts u within marked)

    each-literal : (cut : ℕ) → second ≤ cut → (m : ℤ) → has_literal (map opposite (marked_literals marks ts)) m ≡ true → (opposite (literal_at ts u) ≡ m) ⊎ (is_false (take cut ts) m ≡ true)
    each-literal cut le m h = let r = marked-place marks ts (opposite m) (opposites-has (marked_literals marks ts) m h) in
        elim (others r.0 r.1 r.2) [
          | inl is ↦ inl (ap (λ p. opposite (literal_at ts p)) (sym is) ∙ ap opposite r.3 ∙ opposite-opposite m)
          | inr early ↦ inr (ap (has_literal (take cut ts)) (sym r.3) ∙ has-take ts cut r.0 (omega (arith, early, le)) r.1)
        ]

    pub learned-forces : (cut : ℕ) → second ≤ cut → cut ≤ u → forces (take cut ts) (map opposite (marked_literals marks ts)) (opposite (literal_at ts u)) ≡ true
    learned-forces cut le above = forced-from (take cut ts) (map opposite (marked_literals marks ts)) (opposite (literal_at ts u)) (record {
      within = asserting;
      not_true = no-opposite-taken ts apart vars named cut u within;
      not_false = ap (has_literal (take cut ts)) (opposite-opposite (literal_at ts u)) ∙ not-taken ts apart cut u above within;
      others = λ m h. each-literal cut le m h;
    })

    pub learned-new : (cut : ℕ) → second ≤ cut → cut ≤ u → IsClosed clauses (take cut ts) → IsNew clauses (map opposite (marked_literals marks ts))
    learned-new cut le above closed = (
      (λ e. both_ways (has_literal (map opposite (marked_literals marks ts)) (opposite (literal_at ts u))) (ap (λ c. has_literal c (opposite (literal_at ts u))) e) asserting),
      λ k d lt. false_from_ne_true (subsumed_by (map opposite (marked_literals marks ts)) (get_or clauses k d)) (λ all. none (get_or clauses k d) (closed k d lt) all),
    )
      where
        none : (c : List ℤ) → HasStatus (take cut ts) c Open → subsumed_by (map opposite (marked_literals marks ts)) c ≡ true → ⊥
        none c unforced all = elim (cases_Bool (has_literal c (opposite (literal_at ts u)))) [
          | inl on ↦ both_ways (forces (take cut ts) c (opposite (literal_at ts u))) (unforced.1 (opposite (literal_at ts u)))
              (forced-from (take cut ts) c (opposite (literal_at ts u)) (record {
                within = on;
                not_true = no-opposite-taken ts apart vars named cut u within;
                not_false = ap (has_literal (take cut ts)) (opposite-opposite (literal_at ts u)) ∙ not-taken ts apart cut u above within;
                others = λ m h. each-literal cut le m (each-has (has_literal (map opposite (marked_literals marks ts))) c m all h);
              }))
          | inr off ↦ both_ways (is_conflict (take cut ts) c) unforced.0 (each-from (is_false (take cut ts)) c (λ m h.
              elim (each-literal cut le m (each-has (has_literal (map opposite (marked_literals marks ts))) c m all h)) [
                | inl is ↦ absurd (both_ways (has_literal c (opposite (literal_at ts u))) off (ap (has_literal c) is ∙ h))
                | inr false_there ↦ false_there
              ]))
        ]

  -- nothing is forced by it before its two last literals are false
  pub learned-open : (s u w : ℕ) → s ≤ u → s ≤ w → u < length ts → w < length ts → u ≢ w → is_marked marks u ≡ true → is_marked marks w ≡ true
      → HasStatus (take s ts) (map opposite (marked_literals marks ts)) Open
  learned-open s u w su sw lu lw differs mu mw = (
    false_from_ne_true (is_conflict (take s ts) (map opposite (marked_literals marks ts))) (λ all.
        both_ways (is_false (take s ts) (opposite (literal_at ts u))) (not_false u su lu)
        (each-has (is_false (take s ts)) (map opposite (marked_literals marks ts)) (opposite (literal_at ts u)) all (inside u lu mu))),
    λ l. false_from_ne_true (forces (take s ts) (map opposite (marked_literals marks ts)) l) (λ e.
        let f = forced-parts (take s ts) (map opposite (marked_literals marks ts)) l e in
        differs (same-place ts apart u w lu lw (opposite-same (literal_at ts u) (literal_at ts w) (sym (is f u su lu mu) ∙ is f w sw lw mw)))),
  )
    where
      inside : (p : ℕ) → p < length ts → is_marked marks p ≡ true → has_literal (map opposite (marked_literals marks ts)) (opposite (literal_at ts p)) ≡ true
      inside p lt m = has-opposites (marked_literals marks ts) (literal_at ts p) (marked-at marks ts p lt m)

      not_false : (p : ℕ) → s ≤ p → p < length ts → is_false (take s ts) (opposite (literal_at ts p)) ≡ false
      not_false p le lt = ap (has_literal (take s ts)) (opposite-opposite (literal_at ts p)) ∙ not-taken ts apart s p le lt

      is : {l : ℤ} → IsForced (take s ts) (map opposite (marked_literals marks ts)) l → (p : ℕ) → s ≤ p → p < length ts → is_marked marks p ≡ true → l ≡ opposite (literal_at ts p)
      is f p le lt m = elim (f.others (opposite (literal_at ts p)) (inside p lt m)) [
        | inl e ↦ e
        | inr off ↦ absurd (both_ways (is_false (take s ts) (opposite (literal_at ts p))) (not_false p le lt) off)
      ]

-- ---- it is made literal by literal

marked-next : (marks : List Bool) (ts : List ℤ) (p : ℕ) → length marks ≡ length ts → p < length ts
    → map opposite (marked_literals (take (suc p) marks) (take (suc p) ts)) ≡ map opposite (marked_literals (take p marks) (take p ts)) ++ opposite_at marks ts p
marked-next [] ts p e lt = absurd (omega (arith, e, lt))
marked-next (b ∷ marks) [] p e lt = absurd (omega (arith, lt))
marked-next (true ∷ marks) (t ∷ ts) zero e lt = refl
marked-next (false ∷ marks) (t ∷ ts) zero e lt = refl
marked-next (true ∷ marks) (t ∷ ts) (suc p) e lt = ap (λ ls. opposite t ∷ ls) (marked-next marks ts p (omega (arith, e)) (omega (arith, lt)))
marked-next (false ∷ marks) (t ∷ ts) (suc p) e lt = marked-next marks ts p (omega (arith, e)) (omega (arith, lt))

pub marked-more : (marks : List Bool) (ts : List ℤ) (p : ℕ) → length marks ≡ length ts → p < length ts
    → map opposite (marked_literals (take p marks) (take p ts)) ++ opposite_at marks ts p ≡ map opposite (marked_literals (take (p + 1) marks) (take (p + 1) ts))
marked-more marks ts p e lt = let next : suc p ≡ p + 1 = omega arith in
    sym (marked-next marks ts p e lt) ∙ ap (λ n. map opposite (marked_literals (take n marks) (take n ts))) next

pub marked-all : (marks : List Bool) (ts : List ℤ) (n : ℕ) → length marks ≡ length ts → length ts ≤ n → marked_literals (take n marks) (take n ts) ≡ marked_literals marks ts
marked-all marks ts n e le = ap (λ ms. marked_literals ms (take n ts)) (take_all n marks (omega (arith, e, le))) ∙ ap (marked_literals marks) (take_all n ts le)

pub marked-none : (marks : List Bool) (ts : List ℤ) → ((p : ℕ) → p < length marks → is_marked marks p ≡ false) → marked_literals marks ts ≡ []
marked-none [] ts h = refl
marked-none (true ∷ marks) ts h = absurd (both_ways true (h 0 (omega arith)) refl)
marked-none (false ∷ marks) [] h = refl
marked-none (false ∷ marks) (t ∷ ts) h = marked-none marks ts (λ p lt. h (suc p) (omega (arith, lt)))
