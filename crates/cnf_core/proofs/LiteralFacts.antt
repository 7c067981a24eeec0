-- Literals, their indices and lists of them.
use Rattle.std.proofs.Common.{◌≡◌, ◌≢◌, ℕ, zero, suc, ◌+◌, ◌*◌, ◌<◌, ◌≤◌, ℤ, pos, negsuc, true, List, [], ◌∷◌, ◌++◌, length, get_or, take, drop, refl, sym, ap, subst, ◌∙◌, arith, ◌⊎◌, inl, inr}
use Rattle.std.specs.List.{All}
use Rattle.std.proofs.lemmas.List.{get_or-map, length-map, map-append, take-append-drop, take_more}
use Rattle.std.proofs.lemmas.Bool.{false≢true, or_cases, or_left, or_right}
use Rattle.std.proofs.lemmas.Bool.Decides.{Decides-int_eq}
use Rattle.cnf_core.specs.Literals.{Names, has_literal, index_of, opposite, same, variable}
use Rattle.cnf_core.specs.Trails.{literal_at, numbers}
use Rattle.cnf_core.specs.declared.lit.Lit.{Lit}

pub same-same : (l : ℤ) → same l l ≡ true
same-same l = (Decides-int_eq l l).1 refl

pub same-is : (l m : ℤ) → same l m ≡ true → l ≡ m
same-is l m h = (Decides-int_eq l m).0 h

pub index_of-injective : (l m : ℤ) → index_of l ≡ index_of m → l ≡ m
index_of-injective (pos a) (pos b) h = ap pos (omega (arith, h))
index_of-injective (pos a) (negsuc b) h = absurd (omega (arith, h))
index_of-injective (negsuc a) (pos b) h = absurd (omega (arith, h))
index_of-injective (negsuc a) (negsuc b) h = ap negsuc (omega (arith, h))

pub index_of-below : (l : ℤ) (vars : ℕ) → variable l ≤ vars → index_of l < vars * 2 + 2
index_of-below (pos n) vars h = omega (arith, h)
index_of-below (negsuc n) vars h = omega (arith, h)

pub opposite-opposite : (l : ℤ) → opposite (opposite l) ≡ l
opposite-opposite (pos zero) = refl
opposite-opposite (pos (suc n)) = refl
opposite-opposite (negsuc n) = refl

pub variable-opposite : (l : ℤ) → variable (opposite l) ≡ variable l
variable-opposite (pos zero) = refl
variable-opposite (pos (suc n)) = refl
variable-opposite (negsuc n) = refl

pub variable-same : (l m : ℤ) → variable l ≡ variable m → (l ≡ m) ⊎ (l ≡ opposite m)
variable-same (pos a) (pos b) h = inl (ap pos h)
variable-same (pos a) (negsuc b) h = inr (ap pos h)
variable-same (negsuc a) (pos b) h = inr (ap (λ n. opposite (pos n)) h)
variable-same (negsuc a) (negsuc b) h = inl (ap negsuc (omega (arith, h)))

pub opposite-other : (l : ℤ) → 1 ≤ variable l → l ≢ opposite l
opposite-other (pos zero) h e = omega (arith, h)
opposite-other (pos (suc n)) h e = cc
opposite-other (negsuc n) h e = cc

-- ---- lists

pub has-at : (ts : List ℤ) (p : ℕ) → p < length ts → has_literal ts (literal_at ts p) ≡ true
has-at [] p h = absurd (omega (arith, h))
has-at (t ∷ ts) zero h = or_left (same t t) (has_literal ts t) (same-same t)
has-at (t ∷ ts) (suc p) h = or_right (same (literal_at ts p) t) (has_literal ts (literal_at ts p)) (has-at ts p (omega (arith, h)))

pub has-place : (ts : List ℤ) (l : ℤ) → has_literal ts l ≡ true → (p : ℕ) × (p < length ts) × (literal_at ts p ≡ l)
has-place [] l h = absurd (false≢true h)
has-place (t ∷ ts) l h = elim (or_cases (same l t) (has_literal ts l) h) [
  | inl e ↦ (0, omega arith, sym (same-is l t e))
  | inr e ↦ let r = has-place ts l e in (suc r.0, omega (arith, r.1), r.2)
]

-- ---- the literals of a clause, one by one

pub taken-numbers : (lits : List Lit) (i : ℕ) (x : Lit) → i < length lits → x ≡ get_or lits i x → numbers (take (i + 1) lits) ≡ numbers (take i lits) ++ x.number ∷ []
taken-numbers lits i x h e = ap numbers (take_more lits i x h ∙ ap (λ y. take i lits ++ y ∷ []) (sym e)) ∙ map-append (λ (l : Lit). l.number) (take i lits) (x ∷ [])

pub split-numbers : (lits : List Lit) (i : ℕ) → numbers lits ≡ numbers (take i lits) ++ numbers (drop i lits)
split-numbers lits i = ap numbers (sym (take-append-drop i lits)) ∙ map-append (λ (l : Lit). l.number) (take i lits) (drop i lits)

pub named-item : (vars : ℕ) (lits : List Lit) (i : ℕ) (x : Lit) → All (Names vars) (numbers lits) → i < length lits → x ≡ get_or lits i x → Names vars x.number
named-item vars lits i x named h e = subst (Names vars) (get_or-map (λ (l : Lit). l.number) lits i x x.number h ∙ ap (λ (l : Lit). l.number) (sym e))
    (named i x.number (omega (arith, h, length-map lits (λ (l : Lit). l.number))))
