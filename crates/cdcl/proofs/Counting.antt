-- How many places are marked.
use Rattle.std.proofs.Common.{◌≡◌, ℕ, zero, suc, ◌+◌, ◌-◌, ◌<◌, ◌≤◌, ◌||◌, ℤ, Bool, true, false, cond, List, [], ◌∷◌, ◌++◌, length, get_or, set, drop, replicate, refl, sym, ap, ◌∙◌, subst, arith, inl, inr}
use Rattle.std.specs.List.{count_by, sum_by}
use Rattle.std.proofs.lemmas.Bool.{cases_eq, cases_lt, both_ways, or_left, false_from_ne_true}
use Rattle.std.proofs.lemmas.List.{drop-set-add, get_or-drop, get_or-set_same, get_or-set_other, get_or_past, length-drop}
use Rattle.std.proofs.Math.ListN.{length-set}
use Rattle.std.proofs.lemmas.List.Sums.{sum_by-cons, sum_by-set}
use Rattle.cnf_core.specs.Deriving.{is_false}
use Rattle.cnf_core.specs.Literals.{has_literal, opposite, same}
use Rattle.cnf_core.specs.Trails.{IsApart, literal_at}
use Rattle.cdcl.specs.Marks.{MarksToo, count_from, is_marked}
use Rattle.cnf_core.proofs.LiteralFacts.{has-at, opposite-opposite, same-same}
use Rattle.cdcl.proofs.Membership.{has-one, same-place}

abbrev pub one : Bool → ℕ
one b = cond b 1 0

pub count-set : (floor : ℕ) (marks : List Bool) (p : ℕ) (v : Bool) → floor ≤ p → p < length marks
    → count_from floor (set marks p v) + one (is_marked marks p) ≡ count_from floor marks + one v
count-set floor marks p v le lt =
    let k = p - floor in
    let at : floor + k ≡ p = omega (arith, le) in
    let moved : drop floor (set marks p v) ≡ set (drop floor marks) k v = ap (λ q. drop floor (set marks q v)) (sym at) ∙ drop-set-add floor marks k v in
    let read : get_or (drop floor marks) k false ≡ is_marked marks p = get_or-drop floor marks k false ∙ ap (is_marked marks) at in
    ap (λ xs. sum_by one xs + one (is_marked marks p)) moved ∙ ap (λ b. sum_by one (set (drop floor marks) k v) + one b) (sym read)
    ∙ sum_by-set one (drop floor marks) k v false (omega (arith, le, lt, length-drop floor marks))

pub count-none : (floor n : ℕ) (marks : List Bool) → marks ≡ replicate n false → 0 ≡ count_from floor marks
count-none floor n marks e = sym (ap (count_from floor) e ∙ none floor n)
  where
    none : (floor n : ℕ) → count_from floor (replicate n false) ≡ 0
    none zero zero = refl
    none zero (suc n) = none zero n
    none (suc floor) zero = refl
    none (suc floor) (suc n) = none floor n

-- ---- marks that a literal adds

module _ (ts : List ℤ) (apart : IsApart ts) where
  pub marks-one : (marks new : List Bool) (l : ℤ) (q : ℕ) → length marks ≡ length ts → q < length ts → literal_at ts q ≡ opposite l → new ≡ set marks q true → MarksToo (l ∷ []) ts marks new
  marks-one marks new l q sized lt is e = record {
    sized = ap length e ∙ length-set marks q true;
    marks = λ p within. ap (λ ms. is_marked ms p) e ∙ elim (cases_eq p q) [
      | inl here ↦ ap (is_marked (set marks q true)) here ∙ get_or-set_same marks q true false (omega (arith, lt, sized))
          ∙ sym (or-right (is_marked marks p) (has_literal (l ∷ []) (opposite (literal_at ts p)))
          (or_left (same (opposite (literal_at ts p)) l) false
          (ap (λ m. same (opposite m) l) (ap (literal_at ts) here ∙ is) ∙ ap (λ m. same m l) (opposite-opposite l) ∙ same-same l)))
      | inr other ↦ get_or-set_other marks q p true false other
          ∙ sym (or-none (is_marked marks p) (has_literal (l ∷ []) (opposite (literal_at ts p)))
          (false_from_ne_true (has_literal (l ∷ []) (opposite (literal_at ts p))) (λ h.
          other (same-place ts apart p q within lt
          (sym (opposite-opposite (literal_at ts p)) ∙ ap opposite (has-one (opposite (literal_at ts p)) l h) ∙ sym is)))))
    ];
  }
    where
      or-right : (a b : Bool) → b ≡ true → (a || b) ≡ true
      or-right true b e = refl
      or-right false b e = e

      or-none : (a b : Bool) → b ≡ false → (a || b) ≡ a
      or-none true b e = refl
      or-none false b e = e

-- none is added where none is false
pub marks-none : (ts : List ℤ) (marks : List Bool) (l : ℤ) → is_false ts l ≡ false → MarksToo (l ∷ []) ts marks marks
marks-none ts marks l off = record {
  sized = refl;
  marks = λ p within. sym (or-none (is_marked marks p) (has_literal (l ∷ []) (opposite (literal_at ts p)))
      (false_from_ne_true (has_literal (l ∷ []) (opposite (literal_at ts p))) (λ h.
      both_ways (is_false ts l) off (ap (has_literal ts) (sym (sym (opposite-opposite (literal_at ts p)) ∙ ap opposite (has-one (opposite (literal_at ts p)) l h))) ∙ has-at ts p within))));
}
  where
    or-none : (a b : Bool) → b ≡ false → (a || b) ≡ a
    or-none true b e = refl
    or-none false b e = e

pub marks-more : (ts xs : List ℤ) (l : ℤ) (old marks new : List Bool) (whole : List ℤ) → MarksToo xs ts old marks → MarksToo (l ∷ []) ts marks new → whole ≡ xs ++ l ∷ [] → MarksToo whole ts old new
marks-more ts xs l old marks new whole h k e = subst (λ ys. MarksToo ys ts old new) (sym e) (record {
  sized = k.sized ∙ h.sized;
  marks = λ p within. k.marks p within ∙ ap (λ b. b || has_literal (l ∷ []) (opposite (literal_at ts p))) (h.marks p within)
      ∙ or-assoc (is_marked old p) (has_literal xs (opposite (literal_at ts p))) (has_literal (l ∷ []) (opposite (literal_at ts p)))
      ∙ ap (λ b. is_marked old p || b) (sym (has-both xs (l ∷ []) (opposite (literal_at ts p))));
})
  where
    or-assoc : (a b c : Bool) → ((a || b) || c) ≡ (a || (b || c))
    or-assoc true b c = refl
    or-assoc false b c = refl

    has-both : (fs bs : List ℤ) (m : ℤ) → has_literal (fs ++ bs) m ≡ (has_literal fs m || has_literal bs m)
    has-both [] bs m = refl
    has-both (f ∷ fs) bs m = ap (λ b. same m f || b) (has-both fs bs m) ∙ sym (or-assoc (same m f) (has_literal fs m) (has_literal bs m))

-- ---- counts and places

pub count-some : (floor : ℕ) (marks : List Bool) (p : ℕ) → floor ≤ p → p < length marks → is_marked marks p ≡ true → 1 ≤ count_from floor marks
count-some floor marks p le lt on = omega (arith, count-set floor marks p false le lt, ap one on)

count-under : (marks : List Bool) (top : ℕ) → ((q : ℕ) → is_marked marks q ≡ true → q < top) → count_by (λ b. b) marks ≤ top
count-under [] top h = omega arith
count-under (true ∷ marks) zero h = absurd (omega (arith, h 0 refl))
count-under (true ∷ marks) (suc top) h =
    let more : count_by (λ b. b) (true ∷ marks) ≡ 1 + count_by (λ b. b) marks = sum_by-cons one true marks in
    omega (arith, more, count-under marks top (λ q e. omega (arith, h (suc q) e)))
count-under (false ∷ marks) top h =
    let same_count : count_by (λ b. b) (false ∷ marks) ≡ 0 + count_by (λ b. b) marks = sum_by-cons one false marks in
    omega (arith, same_count, count-under marks top (λ q e. omega (arith, h (suc q) e)))

-- those from the floor on are fewer than the places up to the last
pub count-below : (floor : ℕ) (marks : List Bool) (n top : ℕ) → length marks ≡ n → ((q : ℕ) → q < n → is_marked marks q ≡ true → q < top) → count_from floor marks ≤ top - floor
count-below floor marks n top sized h = count-under (drop floor marks) (top - floor) (λ q e.
    let there : is_marked marks (floor + q) ≡ true = sym (get_or-drop floor marks q false) ∙ e in
    omega (arith, h (floor + q) (within (floor + q) there) there))
  where
    within : (p : ℕ) → is_marked marks p ≡ true → p < n
    within p on = elim (cases_lt p (length marks)) [
      | inl below ↦ omega (arith, below, sized)
      | inr above ↦ absurd (both_ways (is_marked marks p) (get_or_past marks p false above) on)
    ]

-- ---- one mark

some-marked : (marks : List Bool) → 1 ≤ count_by (λ b. b) marks → (u : ℕ) × (u < length marks) × (is_marked marks u ≡ true)
some-marked [] h = absurd (omega (arith, h))
some-marked (true ∷ marks) h = (0, omega arith, refl)
some-marked (false ∷ marks) h =
    let rest : count_by (λ b. b) (false ∷ marks) ≡ 0 + count_by (λ b. b) marks = sum_by-cons one false marks in
    let r = some-marked marks (omega (arith, h, rest)) in (suc r.0, omega (arith, r.1), r.2)

pub record OneMarked (floor : ℕ) (marks : List Bool) : Type 0 where
  pub place : ℕ
  pub above : floor ≤ place
  pub within : place < length marks
  pub marked : is_marked marks place ≡ true
  pub only : (p : ℕ) → floor ≤ p → p < length marks → is_marked marks p ≡ true → p ≡ place

pub one-marked : (floor : ℕ) (marks : List Bool) → count_from floor marks ≡ 1 → OneMarked floor marks
one-marked floor marks e =
    let r = some-marked (drop floor marks) (omega (arith, e)) in
    let u = floor + r.0 in
    let within : u < length marks = omega (arith, r.1, length-drop floor marks) in
    let on : is_marked marks u ≡ true = sym (get_or-drop floor marks r.0 false) ∙ r.2 in
    record {
      place = u;
      above = omega arith;
      within = within;
      marked = on;
      only = λ p le lt there. elim (cases_eq p u) [
        | inl is ↦ is
        | inr other ↦ absurd (omega (
          arith,
          count-set floor marks u false (omega arith) within,
          ap one on,
          e,
          count-some floor (set marks u false) p le (omega (arith, lt, length-set marks u false)) (get_or-set_other marks u p false false other ∙ there),
        ))
      ];
    }

pub none-marked : (marks : List Bool) → count_from 0 marks ≡ 0 → (p : ℕ) → p < length marks → is_marked marks p ≡ false
none-marked marks e p lt = false_from_ne_true (is_marked marks p) (λ on. omega (arith, e, count-some 0 marks p (omega arith) lt on))

-- the last place that is marked, where one is from the floor on
module _ (floor : ℕ) (marks : List Bool) (end : ℕ) (counted : count_from floor marks ≡ 1) (within : end ≤ length marks)
    (none : (p : ℕ) → end ≤ p → p < length marks → is_marked marks p ≡ false) (marked : (p : ℕ) → end ≡ p + 1 → is_marked marks p ≡ true) where
  marked-before : (p : ℕ) → p < length marks → is_marked marks p ≡ true → p < end
  marked-before p lt on = elim (cases_lt p end) [
    | inl before ↦ before
    | inr after ↦ absurd (both_ways (is_marked marks p) (none p after lt) on)
  ]

  pub some-last : 1 ≤ end
  some-last = let o = one-marked floor marks counted in omega (arith, marked-before o.place o.within o.marked)

  pub last-marked : (p : ℕ) → floor ≤ p → p < length marks → is_marked marks p ≡ true → end - 1 ≡ p
  last-marked p le lt on =
      let o = one-marked floor marks counted in
      let before = marked-before o.place o.within o.marked in
      let last = o.only (end - 1) (omega (arith, before, o.above)) (omega (arith, before, within)) (marked (end - 1) (omega (arith, before))) in
      last ∙ sym (o.only p le lt on)
