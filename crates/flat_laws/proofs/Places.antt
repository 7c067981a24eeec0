-- Places of terms in lists, and the applications of a term.
use Rattle.std.proofs.Common.{◌≡◌, suc, ◌||◌, Bool, true, false, List, [], ◌∷◌, sym, ap, subst, ◌∙◌, inl, inr}
use Rattle.std.specs.Prelude.{filter}
use Rattle.std.specs.List.{AllByRecursion}
use Rattle.std.proofs.lemmas.Bool.{cases_Bool, cond-true, cond-false, or_cases, or_left, or_right, false≢true}
use Rattle.bv_terms.specs.Arenas.{nth}
use Rattle.bv_terms.specs.TermTrees.{Term}
use Rattle.bv_terms.specs.Walks.{is_among, is_application, same_term}
use Rattle.bv_terms.proofs.SameTerms.{same-only}
use Rattle.flat_laws.specs.Flat.{place_in}

pub at-place : (ts : List Term) (t : Term) → is_among ts t ≡ true → nth ts (place_in ts t) ≡ t
at-place [] t h = absurd (false≢true h)
at-place (u ∷ us) t h = elim (cases_Bool (same_term u t)) [
  | inl e ↦ ap (nth (u ∷ us)) (cond-true (same_term u t) 0 (suc (place_in us t)) e) ∙ same-only u t e
  | inr e ↦
      ap (nth (u ∷ us)) (cond-false (same_term u t) 0 (suc (place_in us t)) e)
      ∙ at-place us t (sym (ap (λ b. b || is_among us t) e) ∙ h)
]

-- ---- applications

kept-first : (u : Term) (us : List Term) (t : Term) → is_application u ≡ true → is_among (filter is_application (u ∷ us)) t ≡ (same_term u t || is_among (filter is_application us) t)
kept-first u us t e = ap (λ (ts : List Term). is_among ts t) (cond-true (is_application u) (u ∷ filter is_application us) (filter is_application us) e)

left-first : (u : Term) (us : List Term) → is_application u ≡ false → filter is_application (u ∷ us) ≡ filter is_application us
left-first u us e = cond-false (is_application u) (u ∷ filter is_application us) (filter is_application us) e

pub still-among : (ts : List Term) (t : Term) → is_application t ≡ true → is_among ts t ≡ true → is_among (filter is_application ts) t ≡ true
still-among [] t a h = h
still-among (u ∷ us) t a h = elim (cases_Bool (is_application u)) [
  | inl e ↦ kept-first u us t e ∙ elim (or_cases (same_term u t) (is_among us t) h) [
    | inl s ↦ or_left (same_term u t) (is_among (filter is_application us) t) s
    | inr r ↦ or_right (same_term u t) (is_among (filter is_application us) t) (still-among us t a r)
  ]
  | inr e ↦ elim (or_cases (same_term u t) (is_among us t) h) [
    | inl s ↦ absurd (false≢true (sym e ∙ ap is_application (same-only u t s) ∙ a))
    | inr r ↦ ap (λ (ts : List Term). is_among ts t) (left-first u us e) ∙ still-among us t a r
  ]
]

-- what holds of each of some terms, and that it is an application
abbrev pub Applied : (Term → Type 0) → Term → Type 0
Applied P t = P t × (is_application t ≡ true)

pub all-applied : (P : Term → Type 0) (ts : List Term) → AllByRecursion P ts → AllByRecursion (Applied P) (filter is_application ts)
all-applied P [] h = tt
all-applied P (u ∷ us) h = elim (cases_Bool (is_application u)) [
  | inl e ↦ subst (AllByRecursion (Applied P)) (sym (cond-true (is_application u) (u ∷ filter is_application us) (filter is_application us) e)) ((h.0, e), all-applied P us h.1)
  | inr e ↦ subst (AllByRecursion (Applied P)) (sym (left-first u us e)) (all-applied P us h.1)
]

pub all-filtered : (P : Term → Type 0) (p : Term → Bool) (ts : List Term) → AllByRecursion P ts → AllByRecursion (λ t. P t × (p t ≡ true)) (filter p ts)
all-filtered P p [] h = tt
all-filtered P p (u ∷ us) h = elim (cases_Bool (p u)) [
  | inl e ↦ subst (AllByRecursion (λ t. P t × (p t ≡ true))) (sym (cond-true (p u) (u ∷ filter p us) (filter p us) e)) ((h.0, e), all-filtered P p us h.1)
  | inr e ↦ subst (AllByRecursion (λ t. P t × (p t ≡ true))) (sym (cond-false (p u) (u ∷ filter p us) (filter p us) e)) (all-filtered P p us h.1)
]
