-- The clause that is learned from a conflict: it follows by its hints, and it is new.
use Rattle.std.proofs.Common.{◌≡◌, ℕ, zero, suc, ◌+◌, ◌<◌, ◌≤◌, ℤ, Bool, true, false, List, [], ◌∷◌, ◌++◌, length, set, take, map, Some, refl, sym, ap, ◌∙◌, subst, arith, ◌⊎◌, inl, inr}
use Rattle.std.specs.Prelude.{slice_get}
use Rattle.std.proofs.lemmas.Bool.{cases_eq, cases_lt, both_ways, false≢true, or_left, or_right, or_cases, false_from_ne_true}
use Rattle.std.proofs.lemmas.List.{get_or-set_same, get_or-set_other, reverse-append}
use Rattle.std.specs.List.{All}
use Rattle.cnf_core.specs.Deriving.{Refutes, is_conflict, is_false}
use Rattle.cnf_core.specs.Literals.{Names, has_literal, opposite, same}
use Rattle.cnf_core.specs.Trails.{IsApart, HasStatus, literal_at}
use Rattle.cnf_core.specs.declared.clause_status.ClauseStatus.TheVariants.{Open}
use Rattle.cdcl.specs.Marks.{MarksToo, Shows, count_from, is_marked, marked_literals}
use Rattle.cdcl.proofs.Counting.{count-some}
use Rattle.cdcl.proofs.Trailing.{at-some}
use Rattle.cdcl.specs.Searching.{IsClosed, IsForcedBy}
use Rattle.cnf_core.proofs.LiteralFacts.{has-at, has-place, opposite-opposite, same-is, same-same}
use Rattle.cnf_core.proofs.ClauseStatuses.{each-has, has-prefix, has-last}
use Rattle.cdcl.proofs.Membership.{each-from, forced-from, forced-parts, has-append, has-one, has-take, no-opposite, same-place, take-place}

-- ---- the literals that are marked

pub marked-place : (marks : List Bool) (ts : List ℤ) (l : ℤ) → has_literal (marked_literals marks ts) l ≡ true → (p : ℕ) × (p < length ts) × (is_marked marks p ≡ true) × (literal_at ts p ≡ l)
marked-place [] ts l h = absurd (false≢true h)
marked-place (true ∷ marks) [] l h = absurd (false≢true h)
marked-place (false ∷ marks) [] l h = absurd (false≢true h)
marked-place (true ∷ marks) (t ∷ ts) l h = elim (or_cases (same l t) (has_literal (marked_literals marks ts) l) h) [
  | inl e ↦ (0, omega arith, refl, sym (same-is l t e))
  | inr e ↦ let r = marked-place marks ts l e in (suc r.0, omega (arith, r.1), r.2, r.3)
]
marked-place (false ∷ marks) (t ∷ ts) l h = let r = marked-place marks ts l h in (suc r.0, omega (arith, r.1), r.2, r.3)

pub marked-at : (marks : List Bool) (ts : List ℤ) (p : ℕ) → p < length ts → is_marked marks p ≡ true → has_literal (marked_literals marks ts) (literal_at ts p) ≡ true
marked-at [] ts p lt h = absurd (false≢true h)
marked-at (b ∷ marks) [] p lt h = absurd (omega (arith, lt))
marked-at (true ∷ marks) (t ∷ ts) zero lt h = or_left (same t t) (has_literal (marked_literals marks ts) t) (same-same t)
marked-at (false ∷ marks) (t ∷ ts) zero lt h = absurd (false≢true h)
marked-at (true ∷ marks) (t ∷ ts) (suc p) lt h = or_right (same (literal_at ts p) t) (has_literal (marked_literals marks ts) (literal_at ts p)) (marked-at marks ts p (omega (arith, lt)) h)
marked-at (false ∷ marks) (t ∷ ts) (suc p) lt h = marked-at marks ts p (omega (arith, lt)) h

pub opposites-has : (ls : List ℤ) (m : ℤ) → has_literal (map opposite ls) m ≡ true → has_literal ls (opposite m) ≡ true
opposites-has [] m h = absurd (false≢true h)
opposites-has (l ∷ ls) m h = elim (or_cases (same m (opposite l)) (has_literal (map opposite ls) m) h) [
  | inl e ↦ or_left (same (opposite m) l) (has_literal ls (opposite m)) (ap (λ k. same k l) (ap opposite (same-is m (opposite l) e) ∙ opposite-opposite l) ∙ same-same l)
  | inr e ↦ or_right (same (opposite m) l) (has_literal ls (opposite m)) (opposites-has ls m e)
]

pub has-opposites : (ls : List ℤ) (l : ℤ) → has_literal ls l ≡ true → has_literal (map opposite ls) (opposite l) ≡ true
has-opposites [] l h = absurd (false≢true h)
has-opposites (m ∷ ls) l h = elim (or_cases (same l m) (has_literal ls l) h) [
  | inl e ↦ or_left (same (opposite l) (opposite m)) (has_literal (map opposite ls) (opposite l)) (ap (λ k. same (opposite k) (opposite m)) (same-is l m e) ∙ same-same (opposite m))
  | inr e ↦ or_right (same (opposite l) (opposite m)) (has_literal (map opposite ls) (opposite l)) (has-opposites ls l e)
]

pub opposites-twice : (ls : List ℤ) → map opposite (map opposite ls) ≡ ls
opposites-twice [] = refl
opposites-twice (l ∷ ls) = ap (λ m. m ∷ map opposite (map opposite ls)) (opposite-opposite l) ∙ ap (λ ms. l ∷ ms) (opposites-twice ls)

-- ---- the conflict, and one clause more

module _ (clauses : List (List ℤ)) (ts : List ℤ) where
  pub shows-conflict : (n : ℕ) (c : List ℤ) (old marks : List Bool) → slice_get clauses n ≡ Some c → is_conflict ts c ≡ true
      → MarksToo c ts old marks → Shows clauses ts marks (length ts) (n ∷ [])
  shows-conflict n c old marks e conflict m us covers within = (
    c,
    e,
    inl (
      refl,
      each-from (is_false us) c (λ l h.
          let found = has-place ts (opposite l) (each-has (is_false ts) c l conflict h) in
          let marked = m.marks found.0 found.1 ∙ or_right (is_marked old found.0) (has_literal c (opposite (literal_at ts found.0)))
          (ap (has_literal c) (ap opposite found.2 ∙ opposite-opposite l) ∙ h) in
          ap (has_literal us) (sym found.2) ∙ covers found.0 found.1 marked),
    ),
  )

  module _ (apart : IsApart ts) (vars : ℕ) (named : All (Names vars) ts) where
    pub shows-reason : (p n : ℕ) (hints : List ℕ) (old unmarked marks : List Bool) → p < length ts → p < length old → IsForcedBy clauses ts p n
        → unmarked ≡ set old p false → (f : IsForcedBy clauses ts p n) → MarksToo f.0 ts unmarked marks
        → Shows clauses ts old (p + 1) hints → Shows clauses ts marks p (hints ++ n ∷ [])
    shows-reason p n hints old unmarked marks lt within g e f m shows us covers inside =
        let l = literal_at ts p in
        let forced = forced-parts (take p ts) f.0 l f.2 in
        let outside : (k : ℤ) → has_literal (take p ts) k ≡ false → has_literal us k ≡ false
        = λ k off. false_from_ne_true (has_literal us k) (λ on. both_ways (has_literal (take p ts) k) off (inside k on)) in
        let others : (k : ℤ) → has_literal f.0 k ≡ true → (l ≡ k) ⊎ (is_false us k ≡ true)
        = λ k h. elim (forced.others k h) [
          | inl is ↦ inl is
          | inr off ↦ let found = take-place ts p (opposite k) off in
              let marked = m.marks found.0 found.2 ∙ or_right (is_marked unmarked found.0) (has_literal f.0 (opposite (literal_at ts found.0)))
              (ap (has_literal f.0) (ap opposite found.3 ∙ opposite-opposite k) ∙ h) in
              inr (ap (has_literal us) (sym found.3) ∙ covers found.0 found.2 marked)
        ] in
        subst (Refutes clauses us) (sym (reverse-append hints (n ∷ []))) (
          f.0,
          f.1,
          inr (
            l,
            forced-from us f.0 l (record {
              within = forced.within;
              not_true = outside l forced.not_true;
              not_false = outside (opposite l) forced.not_false;
              others = others;
            }),
            shows (us ++ l ∷ [])
                (λ q lq marked. elim (cases_eq q p) [
                  | inl is ↦ ap (λ r. has_literal (us ++ l ∷ []) (literal_at ts r)) is ∙ has-last us l
                  | inr other ↦ has-prefix us (l ∷ []) (literal_at ts q) (covers q lq
                      (m.marks q lq ∙ or_left (is_marked unmarked q) (has_literal f.0 (opposite (literal_at ts q)))
                      (ap (λ ms. is_marked ms q) e ∙ get_or-set_other old p q false false other ∙ marked)))
                ])
                (λ k h. elim (has-append us (l ∷ []) k h) [
                  | inl old_one ↦ let r = take-place ts p k (inside k old_one) in ap (has_literal (take (p + 1) ts)) (sym r.3) ∙ has-take ts (p + 1) r.0 (omega (arith, r.1)) r.2
                  | inr new_one ↦ ap (has_literal (take (p + 1) ts)) (has-one k l new_one) ∙ has-take ts (p + 1) p (omega arith) lt
                ]),
          ),
        )

    -- only earlier literals are marked then
    pub below-reason : (p n : ℕ) (old unmarked marks : List Bool) → p < length ts → p < length old → unmarked ≡ set old p false → (f : IsForcedBy clauses ts p n) → MarksToo f.0 ts unmarked marks
        → ((q : ℕ) → q < length ts → is_marked old q ≡ true → q < p + 1) → (q : ℕ) → q < length ts → is_marked marks q ≡ true → q < p
    below-reason p n old unmarked marks lt within e f m below q lq marked =
        let l = literal_at ts p in
        let forced = forced-parts (take p ts) f.0 l f.2 in
        elim (or_cases (is_marked unmarked q) (has_literal f.0 (opposite (literal_at ts q))) (sym (m.marks q lq) ∙ marked)) [
          | inl before ↦ elim (cases_eq q p) [
            | inl is ↦ absurd (both_ways (is_marked (set old p false) p) (get_or-set_same old p false false within)
                (ap (is_marked (set old p false)) (sym is) ∙ ap (λ ms. is_marked ms q) (sym e) ∙ before))
            | inr other ↦ omega (arith, other, below q lq (sym (get_or-set_other old p q false false other) ∙ ap (λ ms. is_marked ms q) (sym e) ∙ before))
          ]
          | inr now ↦ elim (forced.others (opposite (literal_at ts q)) now) [
            | inl is ↦ absurd (both_ways (has_literal ts (opposite (literal_at ts q))) (no-opposite ts apart vars named q lq) (ap (has_literal ts) (sym is) ∙ has-at ts p lt))
            | inr off ↦ let r = take-place ts p (opposite (opposite (literal_at ts q))) off in
                let same_one = same-place ts apart r.0 q r.2 lq (r.3 ∙ opposite-opposite (literal_at ts q)) in
                omega (arith, same_one, r.1)
          ]
        ]

  -- one that is not marked makes no difference
  pub shows-skip : (p : ℕ) (hints : List ℕ) (marks : List Bool) → Shows clauses ts marks (p + 1) hints → Shows clauses ts marks p hints
  shows-skip p hints marks shows us covers inside = shows us covers (λ k h. let r = take-place ts p k (inside k h) in
      ap (has_literal (take (p + 1) ts)) (sym r.3) ∙ has-take ts (p + 1) r.0 (omega (arith, r.1)) r.2)

  pub below-skip : (p : ℕ) (marks : List Bool) → is_marked marks p ≡ false → ((q : ℕ) → q < length ts → is_marked marks q ≡ true → q < p + 1) → (q : ℕ) → q < length ts → is_marked marks q ≡ true → q < p
  below-skip p marks off below q lq on = elim (cases_eq q p) [
    | inl is ↦ absurd (both_ways (is_marked marks p) off (ap (is_marked marks) (sym is) ∙ on))
    | inr other ↦ omega (arith, other, below q lq on)
  ]

-- ---- the marks of a conflict

pub conflict-counts : (clauses : List (List ℤ)) (ts : List ℤ) (floor n : ℕ) (c : List ℤ) (old marks : List Bool) → slice_get clauses n ≡ Some c → is_conflict ts c ≡ true
    → MarksToo c ts old marks → length marks ≡ length ts → IsClosed clauses (take floor ts) → 1 ≤ count_from floor marks
conflict-counts clauses ts floor n c old marks e conflict m sized closed = elim (cases_lt 0 (count_from floor marks)) [
  | inl some ↦ omega (arith, some)
  | inr none ↦ absurd (both_ways (is_conflict (take floor ts) c) (at-some (λ d. HasStatus (take floor ts) d Open) clauses n c closed e).0
      (each-from (is_false (take floor ts)) c (λ l h.
      let found = has-place ts (opposite l) (each-has (is_false ts) c l conflict h) in
      let marked = m.marks found.0 found.1 ∙ or_right (is_marked old found.0) (has_literal c (opposite (literal_at ts found.0)))
      (ap (has_literal c) (ap opposite found.2 ∙ opposite-opposite l) ∙ h) in
      elim (cases_lt found.0 floor) [
        | inl below ↦ ap (has_literal (take floor ts)) (sym found.2) ∙ has-take ts floor found.0 below found.1
        | inr above ↦ absurd (omega (arith, none, count-some floor marks found.0 above (omega (arith, found.1, sized)) marked))
      ])))
]
