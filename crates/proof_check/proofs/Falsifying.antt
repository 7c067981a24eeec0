-- Clauses whose literals are made false one by one.
use Rattle.std.proofs.Common.{◌≡◌, ◌≢◌, ℕ, zero, suc, ◌+◌, ◌==◌, ◌<◌, ◌≤◌, ℤ, pos, negsuc, Bool, true, false, not, ◌||◌, List, [], ◌∷◌, ◌++◌, length, get_or, take, drop, map, refl, sym, ap, ◌∙◌, subst, arith, ◌⊎◌, inl, inr}
use Rattle.std.specs.List.{All}
use Rattle.std.proofs.lemmas.Bool.{false≢true, both_ways, or_cases, or_left, or_right, or_from, and_parts, and_from, not-true, not_from_false, false_from_ne_true, eqb-true, eq-eqb, ne_eqb}
use Rattle.std.proofs.lemmas.List.{map-append, take-append-drop, append_assoc}
use Rattle.std.proofs.lemmas.List.Elements.{All-push, All-head, All-tail}
use Rattle.cocoon_num.specs.Lists.{has_number, no_repeats}
use Rattle.cnf_core.specs.Deriving.{IsProper, has_no_value, is_false}
use Rattle.cnf_core.specs.Literals.{Names, has_literal, opposite, same, variable}
use Rattle.cnf_core.specs.Trails.{numbers}
use Rattle.cnf_core.specs.declared.lit.Lit.{Lit}
use Rattle.cnf_core.proofs.LiteralFacts.{opposite-opposite, same-is, same-same, taken-numbers, variable-opposite, variable-same}

-- ---- literals

pub open-opposite : (ts : List ℤ) (l : ℤ) → has_no_value ts l ≡ true → has_no_value ts (opposite l) ≡ true
open-opposite ts l h = let parts = and_parts (not (has_literal ts l)) (not (is_false ts l)) h in
    and_from (not (has_literal ts (opposite l))) (not (is_false ts (opposite l))) parts.1
    (ap (λ m. not (has_literal ts m)) (opposite-opposite l) ∙ parts.0)

-- ---- numbers

repeats-push : (ns : List ℕ) (n : ℕ) → no_repeats ns ≡ true → has_number n ns ≡ false → no_repeats (ns ++ n ∷ []) ≡ true
repeats-push [] n h e = refl
repeats-push (m ∷ ns) n h e =
    let parts = and_parts (not (has_number m ns)) (no_repeats ns) h in
    let others = or_no (n == m) (has_number n ns) e in
    and_from (not (has_number m (ns ++ n ∷ []))) (no_repeats (ns ++ n ∷ []))
    (not_from_false (has_number m (ns ++ n ∷ [])) (has-push ns m n (not-true (has_number m ns) parts.0) (flip n m others.0)))
    (repeats-push ns n parts.1 others.1)
  where
    or_no : (a b : Bool) → (a || b) ≡ false → (a ≡ false) × (b ≡ false)
    or_no false b e = (refl, e)
    or_no true b e = absurd (false≢true (sym e))

    flip : (a b : ℕ) → (a == b) ≡ false → (b == a) ≡ false
    flip a b e = ne_eqb b a (λ k. both_ways (a == b) e (eq-eqb a b (sym k)))

    has-push : (ns : List ℕ) (m n : ℕ) → has_number m ns ≡ false → (m == n) ≡ false → has_number m (ns ++ n ∷ []) ≡ false
    has-push [] m n h e = or_from (m == n) false e refl
    has-push (k ∷ ns) m n h e = let both = or_no (m == k) (has_number m ns) h in
        or_from (m == k) (has_number m (ns ++ n ∷ [])) both.0 (has-push ns m n both.1 e)

repeats-middle : (fs : List ℕ) (n : ℕ) (bs : List ℕ) → no_repeats (fs ++ n ∷ bs) ≡ true → has_number n fs ≡ false
repeats-middle [] n bs h = refl
repeats-middle (a ∷ fs) n bs h =
    let parts = and_parts (not (has_number a (fs ++ n ∷ bs))) (no_repeats (fs ++ n ∷ bs)) h in
    or_from (n == a) (has_number n fs)
    (ne_eqb n a (λ e. both_ways (has_number a (fs ++ n ∷ bs)) (not-true (has_number a (fs ++ n ∷ bs)) parts.0)
    (subst (λ m. has_number m (fs ++ n ∷ bs) ≡ true) e (has-middle fs n bs))))
    (repeats-middle fs n bs parts.1)
  where
    has-middle : (fs : List ℕ) (n : ℕ) (bs : List ℕ) → has_number n (fs ++ n ∷ bs) ≡ true
    has-middle [] n bs = or_left (n == n) (has_number n bs) (eq-eqb n n refl)
    has-middle (a ∷ fs) n bs = or_right (n == a) (has_number n (fs ++ n ∷ bs)) (has-middle fs n bs)

-- ---- variables of literals

number-literal : (xs : List ℤ) (l : ℤ) → has_number (variable l) (map variable xs) ≡ true
    → (has_literal (map opposite xs) l ≡ true) ⊎ (has_literal (map opposite xs) (opposite l) ≡ true)
number-literal [] l h = absurd (false≢true h)
number-literal (x ∷ xs) l h = elim (or_cases (variable l == variable x) (has_number (variable l) (map variable xs)) h) [
  | inl here ↦ elim (variable-same l x (eqb-true (variable l) (variable x) here)) [
    | inl is ↦ inr (or_left (same (opposite l) (opposite x)) (has_literal (map opposite xs) (opposite l))
        (ap (λ m. same (opposite l) (opposite m)) (sym is) ∙ same-same (opposite l)))
    | inr off ↦ inl (or_left (same l (opposite x)) (has_literal (map opposite xs) l) (ap (same l) (sym off) ∙ same-same l))
  ]
  | inr there ↦ elim (number-literal xs l there) [
    | inl on ↦ inl (or_right (same l (opposite x)) (has_literal (map opposite xs) l) on)
    | inr off ↦ inr (or_right (same (opposite l) (opposite x)) (has_literal (map opposite xs) (opposite l)) off)
  ]
]

literal-number : (xs : List ℤ) (m : ℤ) (v : ℕ) → has_literal (map opposite xs) m ≡ true → v ≡ variable m → has_number v (map variable xs) ≡ true
literal-number [] m v h e = absurd (false≢true h)
literal-number (x ∷ xs) m v h e = elim (or_cases (same m (opposite x)) (has_literal (map opposite xs) m) h) [
  | inl here ↦ or_left (v == variable x) (has_number v (map variable xs))
      (eq-eqb v (variable x) (e ∙ ap variable (same-is m (opposite x) here) ∙ variable-opposite x))
  | inr there ↦ or_right (v == variable x) (has_number v (map variable xs)) (literal-number xs m v there e)
]

-- ---- clauses

pub proper-push : (vars : ℕ) (xs : List ℤ) (l : ℤ) → IsProper vars xs → Names vars l → has_no_value (map opposite xs) l ≡ true → IsProper vars (xs ++ l ∷ [])
proper-push vars xs l p n h =
    let parts = and_parts (not (has_literal (map opposite xs) l)) (not (is_false (map opposite xs) l)) h in
    record {
      named = All-push (Names vars) xs l p.named n;
      distinct = subst (λ ns. no_repeats ns ≡ true) (sym (map-append variable xs (l ∷ [])))
          (repeats-push (map variable xs) (variable l) p.distinct
          (false_from_ne_true (has_number (variable l) (map variable xs)) (λ e. elim (number-literal xs l e) [
            | inl on ↦ both_ways (has_literal (map opposite xs) l) (not-true (has_literal (map opposite xs) l) parts.0) on
            | inr off ↦ both_ways (is_false (map opposite xs) l) (not-true (is_false (map opposite xs) l) parts.1) off
          ])));
    }

pub proper-free : (vars : ℕ) (xs : List ℤ) (l : ℤ) (more : List ℤ) → IsProper vars (xs ++ l ∷ more) → (variable l ≤ vars) × (has_no_value (map opposite xs) l ≡ true)
proper-free vars xs l more p =
    let none = repeats-middle (map variable xs) (variable l) (map variable more)
    (subst (λ ns. no_repeats ns ≡ true) (map-append variable xs (l ∷ more)) p.distinct) in (
      (middle xs p.named).1,
      and_from (not (has_literal (map opposite xs) l)) (not (is_false (map opposite xs) l))
          (not_from_false (has_literal (map opposite xs) l) (false_from_ne_true (has_literal (map opposite xs) l)
          (λ e. both_ways (has_number (variable l) (map variable xs)) none (literal-number xs l (variable l) e refl))))
          (not_from_false (is_false (map opposite xs) l) (false_from_ne_true (is_false (map opposite xs) l)
          (λ e. both_ways (has_number (variable l) (map variable xs)) none (literal-number xs (opposite l) (variable l) e (sym (variable-opposite l)))))),
    )
  where
    middle : (ys : List ℤ) → All (Names vars) (ys ++ l ∷ more) → Names vars l
    middle [] h = All-head (Names vars) l more h
    middle (y ∷ ys) h = middle ys (All-tail (Names vars) y (ys ++ l ∷ more) h)

-- ---- the literals of a clause, one by one

pub split-at : (lits : List Lit) (i : ℕ) (x : Lit) → i < length lits → x ≡ get_or lits i x → numbers lits ≡ numbers (take i lits) ++ x.number ∷ numbers (drop (i + 1) lits)
split-at lits i x h e = ap numbers (sym (take-append-drop (i + 1) lits)) ∙ map-append (λ (l : Lit). l.number) (take (i + 1) lits) (drop (i + 1) lits)
    ∙ ap (λ ys. ys ++ numbers (drop (i + 1) lits)) (taken-numbers lits i x h e) ∙ append_assoc (numbers (take i lits)) (x.number ∷ []) (numbers (drop (i + 1) lits))

pub opposite-push : (xs : List ℤ) (l : ℤ) → map opposite xs ++ opposite l ∷ [] ≡ map opposite (xs ++ l ∷ [])
opposite-push xs l = sym (map-append opposite xs (l ∷ []))

pub named-variable : (l : ℤ) → l ≢ pos 0 → 1 ≤ variable l
named-variable (pos zero) h = absurd (h refl)
named-variable (pos (suc n)) h = omega arith
named-variable (negsuc n) h = omega arith

has-number : (xs : List ℤ) (m : ℤ) (v : ℕ) → has_literal xs m ≡ true → v ≡ variable m → has_number v (map variable xs) ≡ true
has-number [] m v h e = absurd (false≢true h)
has-number (x ∷ xs) m v h e = elim (or_cases (same m x) (has_literal xs m) h) [
  | inl here ↦ or_left (v == variable x) (has_number v (map variable xs)) (eq-eqb v (variable x) (e ∙ ap variable (same-is m x here)))
  | inr there ↦ or_right (v == variable x) (has_number v (map variable xs)) (has-number xs m v there e)
]

-- a literal of the clause has no value where those before it are true
pub proper-value : (vars : ℕ) (xs : List ℤ) (l : ℤ) (more : List ℤ) → IsProper vars (xs ++ l ∷ more) → (variable l ≤ vars) × (has_no_value xs l ≡ true)
proper-value vars xs l more p =
    let none = repeats-middle (map variable xs) (variable l) (map variable more)
    (subst (λ ns. no_repeats ns ≡ true) (map-append variable xs (l ∷ more)) p.distinct) in (
      (proper-free vars xs l more p).0,
      and_from (not (has_literal xs l)) (not (is_false xs l))
          (not_from_false (has_literal xs l) (false_from_ne_true (has_literal xs l)
          (λ e. both_ways (has_number (variable l) (map variable xs)) none (has-number xs l (variable l) e refl))))
          (not_from_false (is_false xs l) (false_from_ne_true (is_false xs l)
          (λ e. both_ways (has_number (variable l) (map variable xs)) none (has-number xs (opposite l) (variable l) e (sym (variable-opposite l)))))),
    )
