-- What a clause is under the literals that are true, literal by literal.
use Rattle.std.proofs.Common.{◌≡◌, ℤ, Bool, true, false, not, ◌&&◌, ◌||◌, List, [], ◌∷◌, ◌++◌, refl, sym, ap, subst, ◌∙◌, ◌⊎◌, inl, inr}
use Rattle.std.proofs.lemmas.Bool.{false≢true, both_ways, or_cases, or_left, or_right, and_parts, and_from, not-true, not_from_false, false_from_ne_true}
use Rattle.cocoon_num.specs.Lists.{each}
use Rattle.cnf_core.specs.Literals.{has_literal, same}
use Rattle.cnf_core.specs.Deriving.{forces, has_no_value, is_conflict, is_false}
use Rattle.cnf_core.specs.Trails.{HasStatus}
use Rattle.cnf_core.specs.declared.lit.Lit.{Lit}
use Rattle.cnf_core.specs.declared.clause_status.ClauseStatus.TheVariants.{Conflict, Forces, Open}
use Rattle.cnf_core.proofs.LiteralFacts.{same-is, same-same}

-- ---- tests over lists

module _ {A : Type 0} (f : A → Bool) where
  pub each-append : (xs ys : List A) → each f xs ≡ true → each f ys ≡ true → each f (xs ++ ys) ≡ true
  each-append [] ys h k = k
  each-append (x ∷ xs) ys h k = let parts = and_parts (f x) (each f xs) h in
      and_from (f x) (each f (xs ++ ys)) parts.0 (each-append xs ys parts.1 k)

  pub each-prefix : (xs ys : List A) → each f (xs ++ ys) ≡ true → each f xs ≡ true
  each-prefix [] ys h = refl
  each-prefix (x ∷ xs) ys h = let parts = and_parts (f x) (each f (xs ++ ys)) h in
      and_from (f x) (each f xs) parts.0 (each-prefix xs ys parts.1)

  pub each-back : (xs ys : List A) → each f (xs ++ ys) ≡ true → each f ys ≡ true
  each-back [] ys h = h
  each-back (x ∷ xs) ys h = each-back xs ys (and_parts (f x) (each f (xs ++ ys)) h).1

  pub each-weaker : (g : A → Bool) → ((x : A) → f x ≡ true → g x ≡ true) → (xs : List A) → each f xs ≡ true → each g xs ≡ true
  each-weaker g w [] h = refl
  each-weaker g w (x ∷ xs) h = let parts = and_parts (f x) (each f xs) h in
      and_from (g x) (each g xs) (w x parts.0) (each-weaker g w xs parts.1)

pub each-has : (f : ℤ → Bool) (ls : List ℤ) (l : ℤ) → each f ls ≡ true → has_literal ls l ≡ true → f l ≡ true
each-has f [] l h e = absurd (false≢true e)
each-has f (m ∷ ls) l h e = let parts = and_parts (f m) (each f ls) h in
    elim (or_cases (same l m) (has_literal ls l) e) [
      | inl here ↦ ap f (same-is l m here) ∙ parts.0
      | inr there ↦ each-has f ls l parts.1 there
    ]

pub has-prefix : (xs ys : List ℤ) (l : ℤ) → has_literal xs l ≡ true → has_literal (xs ++ ys) l ≡ true
has-prefix [] ys l h = absurd (false≢true h)
has-prefix (x ∷ xs) ys l h = elim (or_cases (same l x) (has_literal xs l) h) [
  | inl here ↦ or_left (same l x) (has_literal (xs ++ ys) l) here
  | inr there ↦ or_right (same l x) (has_literal (xs ++ ys) l) (has-prefix xs ys l there)
]

pub has-last : (xs : List ℤ) (l : ℤ) → has_literal (xs ++ l ∷ []) l ≡ true
has-last [] l = or_left (same l l) false (same-same l)
has-last (x ∷ xs) l = or_right (same l x) (has_literal (xs ++ l ∷ []) l) (has-last xs l)

-- ---- clauses

module _ (ts : List ℤ) where
  -- `forces` in its three parts
  pub record IsForced (ls : List ℤ) (l : ℤ) : Type 0 where
    pub within : has_literal ls l ≡ true
    pub unset : has_no_value ts l ≡ true
    pub others : each (λ m. same l m || is_false ts m) ls ≡ true

  pub forced-parts : (ls : List ℤ) (l : ℤ) → forces ts ls l ≡ true → IsForced ls l
  forced-parts ls l h =
      let first = and_parts (has_literal ls l) (has_no_value ts l && each (λ m. same l m || is_false ts m) ls) h in
      let second = and_parts (has_no_value ts l) (each (λ m. same l m || is_false ts m) ls) first.1 in
      record { within = first.0; unset = second.0; others = second.1 }

  pub forced-from : (ls : List ℤ) (l : ℤ) → IsForced ls l → forces ts ls l ≡ true
  forced-from ls l f = and_from (has_literal ls l) (has_no_value ts l && each (λ m. same l m || is_false ts m) ls) f.within
      (and_from (has_no_value ts l) (each (λ m. same l m || is_false ts m) ls) f.unset f.others)

  pub open-not_false : (l : ℤ) → has_no_value ts l ≡ true → is_false ts l ≡ false
  open-not_false l h = not-true (is_false ts l) (and_parts (not (has_literal ts l)) (not (is_false ts l)) h).1

  pub open-not_true : (l : ℤ) → has_no_value ts l ≡ true → has_literal ts l ≡ false
  open-not_true l h = not-true (has_literal ts l) (and_parts (not (has_literal ts l)) (not (is_false ts l)) h).0

  pub open-from : (l : ℤ) → has_literal ts l ≡ false → is_false ts l ≡ false → has_no_value ts l ≡ true
  open-from l h k = and_from (not (has_literal ts l)) (not (is_false ts l)) (not_from_false (has_literal ts l) h) (not_from_false (is_false ts l) k)

  -- a literal of the clause that is not false is the forced one
  forced-is : (ls : List ℤ) (l m : ℤ) → IsForced ls l → has_literal ls m ≡ true → is_false ts m ≡ false → l ≡ m
  forced-is ls l m f h off = elim (or_cases (same l m) (is_false ts m) (each-has (λ m. same l m || is_false ts m) ls m f.others h)) [
    | inl is ↦ same-is l m is
    | inr on ↦ absurd (both_ways (is_false ts m) off on)
  ]

  pub conflict-forces : (ls : List ℤ) → is_conflict ts ls ≡ true → (l : ℤ) → forces ts ls l ≡ false
  conflict-forces ls h l = false_from_ne_true (forces ts ls l) (λ e. let f = forced-parts ls l e in
      both_ways (is_false ts l) (open-not_false l f.unset) (each-has (is_false ts) ls l h f.within))

  pub forces-conflict : (ls : List ℤ) (l : ℤ) → IsForced ls l → is_conflict ts ls ≡ false
  forces-conflict ls l f = false_from_ne_true (is_conflict ts ls) (λ e.
      both_ways (is_false ts l) (open-not_false l f.unset) (each-has (is_false ts) ls l e f.within))

  pub forced-once : (ls : List ℤ) (l m : ℤ) → IsForced ls l → forces ts ls m ≡ true → m ≡ l
  forced-once ls l m f e = let g = forced-parts ls m e in sym (forced-is ls l m f g.within (open-not_false m g.unset))

  -- ---- what is known of a prefix of a clause

  pub status-empty : HasStatus ts [] Conflict
  status-empty = (refl, conflict-forces [] refl)

  status-conflict : (ls : List ℤ) → is_conflict ts ls ≡ true → HasStatus ts ls Conflict
  status-conflict ls h = (h, conflict-forces ls h)

  status-forces : (ls : List ℤ) (l : Lit) → IsForced ls l.number → HasStatus ts ls (Forces l)
  status-forces ls l f = (forces-conflict ls l.number f, forced-from ls l.number f, λ m e. forced-once ls l.number m f e)

  -- the rest makes no difference to one that is open
  pub open-longer : (ls more : List ℤ) → HasStatus ts ls Open → HasStatus ts (ls ++ more) Open
  open-longer ls more h = (
    false_from_ne_true (is_conflict ts (ls ++ more)) (λ e. both_ways (is_conflict ts ls) h.0 (each-prefix (is_false ts) ls more e)),
    λ l. false_from_ne_true (forces ts (ls ++ more) l) (λ e. let f = forced-parts (ls ++ more) l e in
        none-forced l f.unset (each-prefix (λ m. same l m || is_false ts m) ls more f.others)),
  )
    where
      apart : (l : ℤ) (ms : List ℤ) → has_literal ms l ≡ false → each (λ m. same l m || is_false ts m) ms ≡ true → each (is_false ts) ms ≡ true
      apart l [] none e = refl
      apart l (m ∷ ms) none e = let parts = and_parts (same l m || is_false ts m) (each (λ m. same l m || is_false ts m) ms) e in
          elim (or_cases (same l m) (is_false ts m) parts.0) [
            | inl is ↦ absurd (both_ways (has_literal (m ∷ ms) l) none (or_left (same l m) (has_literal ms l) is))
            | inr off ↦ and_from (is_false ts m) (each (is_false ts) ms) off
                (apart l ms (false_from_ne_true (has_literal ms l) (λ there. both_ways (has_literal (m ∷ ms) l) none (or_right (same l m) (has_literal ms l) there))) parts.1)
          ]

      none-forced : (l : ℤ) → has_no_value ts l ≡ true → each (λ m. same l m || is_false ts m) ls ≡ true → ⊥
      none-forced l unvalued e = elim (cases (has_literal ls l)) [
        | inl held ↦ both_ways (forces ts ls l) (h.1 l) (forced-from ls l (record { within = held; unset = unvalued; others = e }))
        | inr none ↦ both_ways (is_conflict ts ls) h.0 (apart l ls none e)
      ]
        where
          cases : (b : Bool) → (b ≡ true) ⊎ (b ≡ false)
          cases true = inl refl
          cases false = inr refl

  -- ---- one more literal

  pub conflict-false : (ls : List ℤ) (m : ℤ) → HasStatus ts ls Conflict → is_false ts m ≡ true → HasStatus ts (ls ++ m ∷ []) Conflict
  conflict-false ls m h off = status-conflict (ls ++ m ∷ []) (each-append (is_false ts) ls (m ∷ []) h.0 (and_from (is_false ts m) true off refl))

  -- a literal that is not false, and with which nothing is forced
  blocked : (ls : List ℤ) (m : ℤ) → is_false ts m ≡ false → ((l : ℤ) → IsForced (ls ++ m ∷ []) l → l ≡ m → ⊥) → HasStatus ts (ls ++ m ∷ []) Open
  blocked ls m off none = (
    false_from_ne_true (is_conflict ts (ls ++ m ∷ [])) (λ e. both_ways (is_false ts m) off (each-has (is_false ts) (ls ++ m ∷ []) m e (has-last ls m))),
    λ l. false_from_ne_true (forces ts (ls ++ m ∷ []) l) (λ e. let f = forced-parts (ls ++ m ∷ []) l e in
        none l f (forced-is (ls ++ m ∷ []) l m f (has-last ls m) off)),
  )

  pub conflict-true : (ls : List ℤ) (m : ℤ) → HasStatus ts ls Conflict → is_false ts m ≡ false → has_literal ts m ≡ true → HasStatus ts (ls ++ m ∷ []) Open
  conflict-true ls m h off on = blocked ls m off (λ l f e. both_ways (has_literal ts m) (ap (has_literal ts) (sym e) ∙ open-not_true l f.unset) on)

  pub conflict-open : (ls : List ℤ) (m : Lit) → HasStatus ts ls Conflict → is_false ts m.number ≡ false → has_literal ts m.number ≡ false
      → HasStatus ts (ls ++ m.number ∷ []) (Forces m)
  conflict-open ls m h off on = status-forces (ls ++ m.number ∷ []) m (record {
    within = has-last ls m.number;
    unset = open-from m.number on off;
    others = each-append (λ k. same m.number k || is_false ts k) ls (m.number ∷ [])
        (each-weaker (is_false ts) (λ k. same m.number k || is_false ts k) (λ k e. or_right (same m.number k) (is_false ts k) e) ls h.0)
        (and_from (same m.number m.number || is_false ts m.number) true (or_left (same m.number m.number) (is_false ts m.number) (same-same m.number)) refl);
  })

  forces-kept : (ls : List ℤ) (l : Lit) (m : ℤ) → HasStatus ts ls (Forces l) → (same l.number m || is_false ts m) ≡ true → HasStatus ts (ls ++ m ∷ []) (Forces l)
  forces-kept ls l m h e = let f = forced-parts ls l.number h.1 in status-forces (ls ++ m ∷ []) l (record {
    within = has-prefix ls (m ∷ []) l.number f.within;
    unset = f.unset;
    others = each-append (λ k. same l.number k || is_false ts k) ls (m ∷ []) f.others (and_from (same l.number m || is_false ts m) true e refl);
  })

  pub forces-false : (ls : List ℤ) (l : Lit) (m : ℤ) → HasStatus ts ls (Forces l) → is_false ts m ≡ true → HasStatus ts (ls ++ m ∷ []) (Forces l)
  forces-false ls l m h e = forces-kept ls l m h (or_right (same l.number m) (is_false ts m) e)

  pub forces-same : (ls : List ℤ) (l : Lit) (m : ℤ) → HasStatus ts ls (Forces l) → same l.number m ≡ true → HasStatus ts (ls ++ m ∷ []) (Forces l)
  forces-same ls l m h e = forces-kept ls l m h (or_left (same l.number m) (is_false ts m) e)

  pub forces-other : (ls : List ℤ) (l : Lit) (m : ℤ) → HasStatus ts ls (Forces l) → is_false ts m ≡ false → same l.number m ≡ false → HasStatus ts (ls ++ m ∷ []) Open
  forces-other ls l m h off other = let f = forced-parts ls l.number h.1 in
      blocked ls m off (λ k g e. both_ways (same l.number m) other
      (ap (same l.number) (sym e ∙ forced-is (ls ++ m ∷ []) k l.number g (has-prefix ls (m ∷ []) l.number f.within) (open-not_false l.number f.unset)) ∙ same-same l.number))

  -- ---- whole clauses

  pub open-whole : (prefix more whole : List ℤ) → HasStatus ts prefix Open → whole ≡ prefix ++ more → HasStatus ts whole Open
  open-whole prefix more whole h e = subst (λ ls. HasStatus ts ls Open) (sym e) (open-longer prefix more h)
