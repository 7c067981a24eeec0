-- Where literals stand on a trail, as it grows and shrinks.
use Rattle.std.proofs.Common.{◌≡◌, ◌≢◌, ℕ, zero, suc, ◌+◌, ◌-◌, ◌==◌, ◌<◌, ◌≤◌, ℤ, pos, negsuc, cond, true, false, not, List, [], ◌∷◌, ◌++◌, length, get_or, set, refl, sym, ap, ◌∙◌, subst, arith, inl, inr}
use Rattle.std.proofs.lemmas.Bool.{cases_eq, cases_lt, cases_Bool, both_ways, eq-eqb, ne_eqb}
use Rattle.std.proofs.lemmas.List.{get_or-set_same, get_or-set_other, get_or_append_left, get_or_push, get_or_past, length_push, get_or_read, map-append}
use Rattle.std.specs.List.{All, count_by}
use Rattle.std.proofs.lemmas.List.Elements.{All-append, All-cons, All-nil}
use Rattle.std.proofs.lemmas.List.Sums.{sum_by-set}
use Rattle.cnf_core.specs.Deriving.{has_no_value}
use Rattle.cnf_core.specs.Literals.{Names, has_literal, index_of, opposite, variable}
use Rattle.cnf_core.specs.Trails.{IsApart, Placed, literal_at, numbers}
use Rattle.cnf_core.specs.declared.lit.Lit.{Lit}
use Rattle.cnf_core.proofs.ClauseStatuses.{open-not_true, open-not_false}
use Rattle.cnf_core.proofs.LiteralFacts.{has-at, has-place, index_of-injective, variable-same}

pub place-some : (ts : List ℤ) (ps : List ℕ) (l : ℤ) → Placed ts ps → has_literal ts l ≡ true
    → (p : ℕ) × (p < length ts) × (literal_at ts p ≡ l) × (get_or ps (index_of l) 0 ≡ p + 1)
place-some ts ps l h e = let r = has-place ts l e in (r.0, r.1, r.2, ap (λ m. get_or ps (index_of m) 0) (sym r.2) ∙ h.at r.0 r.1)

pub place-has : (ts : List ℤ) (ps : List ℕ) (l : ℤ) (p : ℕ) → Placed ts ps → get_or ps (index_of l) 0 ≡ p + 1 → has_literal ts l ≡ true
place-has ts ps l p h e =
    let same_literal = index_of-injective (literal_at ts p) l (h.back (index_of l) p e) in
    ap (has_literal ts) (sym same_literal) ∙ has-at ts p (h.within (index_of l) p e)

pub place-none : (ts : List ℤ) (ps : List ℕ) (l : ℤ) → Placed ts ps → has_literal ts l ≡ false → get_or ps (index_of l) 0 ≡ 0
place-none ts ps l h e = elim (cases_eq (get_or ps (index_of l) 0) 0) [
  | inl zero_is ↦ zero_is
  | inr other ↦ let more : get_or ps (index_of l) 0 ≡ (get_or ps (index_of l) 0 - 1) + 1 = omega (arith, other) in
      absurd (both_ways (has_literal ts l) e (place-has ts ps l (get_or ps (index_of l) 0 - 1) h more))
]

pub place-test : (ts : List ℤ) (ps : List ℕ) (l : ℤ) (x : ℕ) → Placed ts ps → x ≡ get_or ps (index_of l) 0 → not (x == 0) ≡ has_literal ts l
place-test ts ps l x h e = elim (cases_Bool (has_literal ts l)) [
  | inl held ↦ let r = place-some ts ps l h held in
      ap not (ne_eqb x 0 (λ z. omega (arith, z, e, r.3))) ∙ sym held
  | inr none ↦ ap not (eq-eqb x 0 (e ∙ place-none ts ps l h none)) ∙ sym none
]

-- ---- one more literal

module _ (ts : List ℤ) (ps : List ℕ) (l : ℤ) (h : Placed ts ps) (within : index_of l < length ps)
    (not_true : has_literal ts l ≡ false) where
  -- a literal that was true stands elsewhere
  elsewhere : (p : ℕ) → p < length ts → index_of (literal_at ts p) ≢ index_of l
  elsewhere p lt e = omega (arith, h.at p lt, ap (λ i. get_or ps i 0) e, place-none ts ps l h not_true)

  pub placed-push : Placed (ts ++ l ∷ []) (set ps (index_of l) (length ts + 1))
  placed-push = record {
    at = λ p lt. elim (cases_lt p (length ts)) [
      | inl below ↦ ap (λ m. get_or (set ps (index_of l) (length ts + 1)) (index_of m) 0) (get_or_append_left ts (l ∷ []) (pos 0) p below)
          ∙ get_or-set_other ps (index_of l) (index_of (literal_at ts p)) (length ts + 1) 0 (elsewhere p below) ∙ h.at p below
      | inr above ↦ let last : length ts ≡ p = omega (arith, lt, above, length_push ts l) in
          ap (λ m. get_or (set ps (index_of l) (length ts + 1)) (index_of m) 0) (get_or_push ts l (pos 0) p last)
          ∙ get_or-set_same ps (index_of l) (length ts + 1) 0 within ∙ ap (λ n. n + 1) last
    ];
    within = λ i p e. elim (cases_eq i (index_of l)) [
      | inl here ↦ let value : length ts + 1 ≡ p + 1 = sym (get_or-set_same ps (index_of l) (length ts + 1) 0 within) ∙ ap (λ j. get_or (set ps (index_of l) (length ts + 1)) j 0) (sym here) ∙ e in
          omega (arith, value, length_push ts l)
      | inr other ↦ let old = h.within i p (sym (get_or-set_other ps (index_of l) i (length ts + 1) 0 other) ∙ e) in
          omega (arith, old, length_push ts l)
    ];
    back = λ i p e. elim (cases_eq i (index_of l)) [
      | inl here ↦ let value : length ts + 1 ≡ p + 1 = sym (get_or-set_same ps (index_of l) (length ts + 1) 0 within) ∙ ap (λ j. get_or (set ps (index_of l) (length ts + 1)) j 0) (sym here) ∙ e in
          ap index_of (get_or_push ts l (pos 0) p (omega (arith, value))) ∙ sym here
      | inr other ↦ let was : get_or ps i 0 ≡ p + 1 = sym (get_or-set_other ps (index_of l) i (length ts + 1) 0 other) ∙ e in
          ap index_of (get_or_append_left ts (l ∷ []) (pos 0) p (h.within i p was)) ∙ h.back i p was
    ];
  }

-- ---- one less

module _ (ts : List ℤ) (ps : List ℕ) (l : ℤ) (h : Placed (ts ++ l ∷ []) ps) where
  last_at : get_or ps (index_of l) 0 ≡ length ts + 1
  last_at = ap (λ m. get_or ps (index_of m) 0) (sym (get_or_push ts l (pos 0) (length ts) refl)) ∙ h.at (length ts) (omega (arith, length_push ts l))

  old_at : (p : ℕ) → p < length ts → get_or ps (index_of (literal_at ts p)) 0 ≡ p + 1
  old_at p lt = ap (λ m. get_or ps (index_of m) 0) (sym (get_or_append_left ts (l ∷ []) (pos 0) p lt)) ∙ h.at p (omega (arith, lt, length_push ts l))

  in_range : index_of l < length ps
  in_range = elim (cases_lt (index_of l) (length ps)) [
    | inl below ↦ below
    | inr above ↦ absurd (omega (arith, last_at, get_or_past ps (index_of l) 0 above))
  ]

  -- what is left of a place
  was : (i p : ℕ) → get_or (set ps (index_of l) 0) i 0 ≡ p + 1 → (i ≢ index_of l) × (get_or ps i 0 ≡ p + 1)
  was i p e = elim (cases_eq i (index_of l)) [
    | inl here ↦ absurd (omega (arith, e, ap (λ j. get_or (set ps (index_of l) 0) j 0) here, get_or-set_same ps (index_of l) 0 0 in_range))
    | inr other ↦ (other, sym (get_or-set_other ps (index_of l) i 0 0 other) ∙ e)
  ]

  below_last : (i p : ℕ) → (i ≢ index_of l) × (get_or ps i 0 ≡ p + 1) → p < length ts
  below_last i p r = elim (cases_lt p (length ts)) [
    | inl below ↦ below
    | inr above ↦ let last : length ts ≡ p = omega (arith, above, h.within i p r.1, length_push ts l) in
        absurd (r.0 (sym (h.back i p r.1) ∙ ap index_of (get_or_push ts l (pos 0) p last)))
  ]

  pub placed-pop : Placed ts (set ps (index_of l) 0)
  placed-pop = record {
    at = λ p lt. get_or-set_other ps (index_of l) (index_of (literal_at ts p)) 0 0
        (λ e. omega (arith, lt, old_at p lt, last_at, ap (λ i. get_or ps i 0) e)) ∙ old_at p lt;
    within = λ i p e. below_last i p (was i p e);
    back = λ i p e. let r = was i p e in
        ap index_of (sym (get_or_append_left ts (l ∷ []) (pos 0) p (below_last i p r))) ∙ h.back i p r.1;
  }

-- ---- variables

pub apart-push : (ts : List ℤ) (l : ℤ) → IsApart ts → has_literal ts l ≡ false → has_literal ts (opposite l) ≡ false → IsApart (ts ++ l ∷ [])
apart-push ts l h not_true not_false p q less within e = elim (cases_lt q (length ts)) [
  | inl below ↦ h p q less below
      (ap variable (sym (get_or_append_left ts (l ∷ []) (pos 0) p (omega (arith, less, below)))) ∙ e ∙ ap variable (get_or_append_left ts (l ∷ []) (pos 0) q below))
  | inr above ↦ let last : length ts ≡ q = omega (arith, within, above, length_push ts l) in
      let under : p < length ts = omega (arith, less, last) in
      let same_variable = ap variable (sym (get_or_append_left ts (l ∷ []) (pos 0) p under)) ∙ e ∙ ap variable (get_or_push ts l (pos 0) q last) in
      elim (variable-same (literal_at ts p) l same_variable) [
        | inl is ↦ both_ways (has_literal ts l) not_true (ap (has_literal ts) (sym is) ∙ has-at ts p under)
        | inr off ↦ both_ways (has_literal ts (opposite l)) not_false (ap (has_literal ts) (sym off) ∙ has-at ts p under)
      ]
]

pub apart-pop : (ts : List ℤ) (l : ℤ) → IsApart (ts ++ l ∷ []) → IsApart ts
apart-pop ts l h p q less within e = h p q less (omega (arith, within, length_push ts l))
    (ap variable (get_or_append_left ts (l ∷ []) (pos 0) p (omega (arith, less, within))) ∙ e ∙ ap variable (sym (get_or_append_left ts (l ∷ []) (pos 0) q within)))

pub named-pop : (vars : ℕ) (ts : List ℤ) (l : ℤ) → All (Names vars) (ts ++ l ∷ []) → All (Names vars) ts
named-pop vars ts l h p d within = subst (Names vars) (get_or_append_left ts (l ∷ []) d p within) (h p d (omega (arith, within, length_push ts l)))

-- ---- what reads and writes of the places give

pub in-range : (ts : List ℤ) (ps : List ℕ) (l : ℤ) → Placed ts ps → has_literal ts l ≡ true → index_of l < length ps
in-range ts ps l h e = elim (cases_lt (index_of l) (length ps)) [
  | inl below ↦ below
  | inr above ↦ absurd (omega (arith, (place-some ts ps l h e).3, get_or_past ps (index_of l) 0 above))
]

pub place-read : (ts : List ℤ) (ps : List ℕ) (l : ℤ) (i x : ℕ) → Placed ts ps → has_literal ts l ≡ true → i ≡ index_of l → x ≡ get_or ps i x
    → (1 ≤ x) × (x - 1 < length ts) × (literal_at ts (x - 1) ≡ l)
place-read ts ps l i x h e k r =
    let found = place-some ts ps l h e in
    let within : i < length ps = omega (arith, k, in-range ts ps l h e) in
    let value : x ≡ found.0 + 1 = get_or_read ps i x within r 0 ∙ ap (λ j. get_or ps j 0) k ∙ found.3 in
    let before : found.0 ≡ x - 1 = omega (arith, value) in
    (omega (arith, value), omega (arith, value, found.1), ap (literal_at ts) (sym before) ∙ found.2)

pub named-variable : (l : ℤ) → l ≢ pos 0 → 1 ≤ variable l
named-variable (pos zero) h = absurd (h refl)
named-variable (pos (suc n)) h = omega arith
named-variable (negsuc n) h = omega arith

abbrev one_if_zero : ℕ → ℕ
one_if_zero place = cond (place == 0) 1 0

pub fewer-zeros : (ps : List ℕ) (i v : ℕ) → i < length ps → get_or ps i 0 ≡ 0 → 1 ≤ v
    → count_by (λ place. place == 0) (set ps i v) < count_by (λ place. place == 0) ps
fewer-zeros ps i v h e k =
    let changed = sum_by-set one_if_zero ps i v 0 h in
    let was : one_if_zero (get_or ps i 0) ≡ 1 = ap one_if_zero e in
    let now : one_if_zero v ≡ 0 = ap (λ b. cond b 1 0) (ne_eqb v 0 (λ z. omega (arith, k, z))) in
    omega (arith, changed, was, now)

-- ---- lists of literals

pub numbers-push : (lits more : List Lit) (l : Lit) → more ≡ lits ++ l ∷ [] → numbers more ≡ numbers lits ++ l.number ∷ []
numbers-push lits more l e = ap numbers e ∙ map-append (λ (l : Lit). l.number) lits (l ∷ [])

pub placed-more : (ts : List ℤ) (ps : List ℕ) (l : ℤ) (more : List ℤ) (i n : ℕ) → Placed ts ps → index_of l < length ps → has_no_value ts l ≡ true
    → more ≡ ts ++ l ∷ [] → i ≡ index_of l → n ≡ length ts + 1 → Placed more (set ps i n)
placed-more ts ps l more i n h within unset e k m = subst (λ us. Placed us (set ps i n)) (sym e)
    (subst (λ j. Placed (ts ++ l ∷ []) (set ps j n)) (sym k)
    (subst (λ x. Placed (ts ++ l ∷ []) (set ps (index_of l) x)) (sym m) (placed-push ts ps l h within (open-not_true ts l unset))))

pub apart-more : (ts : List ℤ) (l : ℤ) (more : List ℤ) → IsApart ts → has_no_value ts l ≡ true → more ≡ ts ++ l ∷ [] → IsApart more
apart-more ts l more h unset e = subst IsApart (sym e) (apart-push ts l h (open-not_true ts l unset) (open-not_false ts l unset))

pub named-more : (vars : ℕ) (ts : List ℤ) (l : ℤ) (more : List ℤ) → All (Names vars) ts → Names vars l → more ≡ ts ++ l ∷ [] → All (Names vars) more
named-more vars ts l more h n e = subst (All (Names vars)) (sym e) (All-append (Names vars) ts (l ∷ []) h (All-cons (Names vars) l [] n (All-nil (Names vars))))

pub placed-less : (ts : List ℤ) (ps : List ℕ) (l : ℤ) (less : List ℤ) (i : ℕ) → Placed ts ps → ts ≡ less ++ l ∷ [] → i ≡ index_of l → Placed less (set ps i 0)
placed-less ts ps l less i h e k = subst (λ j. Placed less (set ps j 0)) (sym k) (placed-pop less ps l (subst (λ us. Placed us ps) e h))
