-- A number to base 3 for each proper clause: for each variable a digit, which is 1 where the variable is among the
-- literals, 2 where its negation is, and 0 where neither is.
use Rattle.std.proofs.Common.{◌≡◌, ℕ, zero, suc, ◌+◌, ◌*◌, ◌^◌, ◌<◌, ◌≤◌, ℤ, pos, negsuc, Bool, true, false, not, List, [], ◌∷◌, map, if◌then◌else◌, refl, sym, ap, ◌∙◌, subst, arith, ◌⊎◌, inl, inr}
use Rattle.std.specs.List.{All}
use Rattle.std.proofs.lemmas.Bool.{false≢true, both_ways, or_cases, or_left, or_right, and_parts, and_from, eq-eqb, false_from_ne_true, not-true}
use Rattle.std.proofs.lemmas.List.Elements.{All-head, All-tail}
use Rattle.std.proofs.Math.Nat.{pow-suc}
use Rattle.cocoon_num.specs.Lists.{each, has_number, no_repeats}
use Rattle.cnf_core.specs.Deriving.{IsProper}
use Rattle.cnf_core.specs.Licensing.{subsumed_by}
use Rattle.cnf_core.specs.Literals.{Names, has_literal, same, variable}
use Rattle.cnf_core.proofs.LiteralFacts.{same-is, same-same}

abbrev digit_by : (plain negated : Bool) → ℕ
digit_by plain negated = if plain then 1 else (if negated then 2 else 0)

-- the digit of variable m + 1
abbrev digit : ℕ → List ℤ → ℕ
digit m ls = digit_by (has_literal ls (pos (suc m))) (has_literal ls (negsuc m))

abbrev pub clause_number : (vars : ℕ) → List ℤ → ℕ
clause_number zero ls = 0
clause_number (suc v) ls = digit v ls + 3 * clause_number v ls

-- ---- it is below 3 ^ vars

digit-small : (plain negated : Bool) → digit_by plain negated < 3
digit-small true negated = omega arith
digit-small false true = omega arith
digit-small false false = omega arith

pub number-below : (vars : ℕ) (ls : List ℤ) → clause_number vars ls < 3 ^ vars
number-below zero ls = omega arith
number-below (suc v) ls =
    let small = digit-small (has_literal ls (pos (suc v))) (has_literal ls (negsuc v)) in
    let more = number-below v ls in
    let power : 3 ^ suc v ≡ 3 * 3 ^ v = grind (arith, pow-suc) in
    omega (arith, small, more, power)

-- ---- equal numbers have equal digits

same-digits : (vars : ℕ) (c d : List ℤ) → clause_number vars c ≡ clause_number vars d → (m : ℕ) → m < vars → digit m c ≡ digit m d
same-digits zero c d h m lt = absurd (omega (arith, lt))
same-digits (suc v) c d h m lt =
    let here = digit-small (has_literal c (pos (suc v))) (has_literal c (negsuc v)) in
    let there = digit-small (has_literal d (pos (suc v))) (has_literal d (negsuc v)) in
    let rest : clause_number v c ≡ clause_number v d = omega (arith, here, there, h) in
    elim (last_or_before m v (omega (arith, lt))) [
      | inl e ↦ subst (λ n. digit n c ≡ digit n d) (sym e) (omega (arith, here, there, h))
      | inr e ↦ same-digits v c d rest m e
    ]
  where
    last_or_before : (m v : ℕ) → m ≤ v → (m ≡ v) ⊎ (m < v)
    last_or_before zero zero h = inl refl
    last_or_before zero (suc v) h = inr (omega arith)
    last_or_before (suc m) zero h = absurd (omega (arith, h))
    last_or_before (suc m) (suc v) h = elim (last_or_before m v (omega (arith, h))) [
      | inl e ↦ inl (ap suc e)
      | inr e ↦ inr (omega (arith, e))
    ]

-- ---- a clause with the digits of a proper one has its literals

plain-digit : (plain negated : Bool) → digit_by plain negated ≡ 1 → plain ≡ true
plain-digit true negated h = refl
plain-digit false true h = absurd (omega (arith, h))
plain-digit false false h = absurd (omega (arith, h))

negated-digit : (plain negated : Bool) → digit_by plain negated ≡ 2 → negated ≡ true
negated-digit true negated h = absurd (omega (arith, h))
negated-digit false true h = refl
negated-digit false false h = absurd (omega (arith, h))

has-variable : (ls : List ℤ) (l : ℤ) → has_literal ls l ≡ true → has_number (variable l) (map variable ls) ≡ true
has-variable [] l h = absurd (false≢true h)
has-variable (m ∷ ls) l h = elim (or_cases (same l m) (has_literal ls l) h) [
  | inl e ↦ or_left _ (has_number (variable l) (map variable ls)) (eq-eqb (variable l) (variable m) (ap variable (same-is l m e)))
  | inr e ↦ or_right _ (has_number (variable l) (map variable ls)) (has-variable ls l e)
]

-- a variable has one literal at most
not-both : (ls : List ℤ) (m : ℕ) → no_repeats (map variable ls) ≡ true → has_literal ls (pos (suc m)) ≡ true → has_literal ls (negsuc m) ≡ true → ⊥
not-both [] m h p n = false≢true p
not-both (l ∷ ls) m h p n =
    let parts = and_parts (not (has_number (variable l) (map variable ls))) (no_repeats (map variable ls)) h in
    let apart = not-true (has_number (variable l) (map variable ls)) parts.0 in
    elim (or_cases (same (pos (suc m)) l) (has_literal ls (pos (suc m))) p) [
      | inl a ↦ elim (or_cases (same (negsuc m) l) (has_literal ls (negsuc m)) n) [
        | inl b ↦ two m l (same-is (pos (suc m)) l a) (same-is (negsuc m) l b)
        | inr b ↦ both_ways _ apart (subst (λ v. has_number v (map variable ls) ≡ true) (ap variable (same-is (pos (suc m)) l a)) (has-variable ls (negsuc m) b))
      ]
      | inr a ↦ elim (or_cases (same (negsuc m) l) (has_literal ls (negsuc m)) n) [
        | inl b ↦ both_ways _ apart (subst (λ v. has_number v (map variable ls) ≡ true) (ap variable (same-is (negsuc m) l b)) (has-variable ls (pos (suc m)) a))
        | inr b ↦ not-both ls m parts.1 a b
      ]
    ]
  where
    two : (m : ℕ) (l : ℤ) → pos (suc m) ≡ l → negsuc m ≡ l → ⊥
    two m l e f = cc

has-too : (vars : ℕ) (c d : List ℤ) → no_repeats (map variable d) ≡ true → clause_number vars c ≡ clause_number vars d
    → (l : ℤ) → Names vars l → has_literal d l ≡ true → has_literal c l ≡ true
has-too vars c d distinct h (pos zero) named has = absurd (omega (arith, named.0))
has-too vars c d distinct h (pos (suc m)) named has =
    plain-digit _ (has_literal c (negsuc m)) (same-digits vars c d h m (omega (arith, named.1)) ∙ ap (λ b. digit_by b (has_literal d (negsuc m))) has)
has-too vars c d distinct h (negsuc m) named has =
    let none = false_from_ne_true (has_literal d (pos (suc m))) (λ p. not-both d m distinct p has) in
    negated-digit (has_literal c (pos (suc m))) _
    (same-digits vars c d h m (omega (arith, named.1)) ∙ ap (λ b. digit_by b (has_literal d (negsuc m))) none ∙ ap (λ b. digit_by false b) has)

each-has : (vars : ℕ) (c d ls : List ℤ) → no_repeats (map variable d) ≡ true → clause_number vars c ≡ clause_number vars d
    → All (Names vars) ls → ((l : ℤ) → has_literal ls l ≡ true → has_literal d l ≡ true) → each (has_literal c) ls ≡ true
each-has vars c d [] distinct h named within = refl
each-has vars c d (l ∷ ls) distinct h named within = and_from (has_literal c l) (each (has_literal c) ls)
    (has-too vars c d distinct h l (All-head (Names vars) l ls named) (within l (or_left (same l l) (has_literal ls l) (same-same l))))
    (each-has vars c d ls distinct h (All-tail (Names vars) l ls named) (λ m e. within m (or_right (same m l) (has_literal ls m) e)))

-- a proper clause subsumes each clause of its number
pub same-number : (vars : ℕ) (c d : List ℤ) → IsProper vars d → clause_number vars c ≡ clause_number vars d → subsumed_by c d ≡ true
same-number vars c d proper h = each-has vars c d d proper.distinct h proper.named (λ l e. e)

-- ---- the empty clause has the number 0

pub number-empty : (vars : ℕ) → clause_number vars [] ≡ 0
number-empty zero = refl
number-empty (suc v) = omega (arith, number-empty v)

pub number-zero : (vars : ℕ) (d : List ℤ) → IsProper vars d → clause_number vars d ≡ 0 → d ≡ []
number-zero vars [] proper h = refl
number-zero vars (l ∷ ls) proper h = absurd (false≢true (same-number vars [] (l ∷ ls) proper (number-empty vars ∙ sym h)))
