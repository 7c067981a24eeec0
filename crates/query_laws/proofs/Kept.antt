-- An instance that breaks a candidate of those before it keeps progress.
use Rattle.std.proofs.Common.{◌≡◌, ◌≢◌, ℕ, zero, suc, List, [], ◌∷◌, ◌++◌, slice_get, take, Some, sym, subst, ◌∙◌}
use Rattle.std.specs.List.{AllByRecursion}
use Rattle.cocoon_num.specs.Tree.{Design}
use Rattle.cocoon_num.specs.Values.{number}
use Rattle.bv_terms.specs.TermTrees.{Term}
use Rattle.cnf_core.specs.declared.certificates.Instance.{Instance}
use Rattle.runtime_defs.proofs.FirstRows.{all-append}
use Rattle.query_laws.specs.Queries.{Fits, instance_term}
use Rattle.bv_terms.specs.WithRows.{Tables}
use Rattle.query_laws.specs.Candidates.{IsCandidate, IsFalseBy, IsTrueBy}
use Rattle.query_laws.specs.Rounds.{AreDifferent, Breaks, Progress}

-- ---- a new instance differs

not-both : (d : Design) (tables : Tables) (i j : Instance) → IsTrueBy tables (instance_term d i) → IsFalseBy tables (instance_term d j) → i ≢ j
not-both d tables i j h k e = absurd (one-or-zero (sym (subst (λ x. IsTrueBy tables (instance_term d x)) e h (λ n. 0)) ∙ k (λ n. 0)))
  where
    one-or-zero : number 1 1 ≡ number 1 0 → ⊥
    one-or-zero e = cc

differs-from-all : (d : Design) (tables : Tables) (is : List Instance) (i : Instance) → AllByRecursion (λ x. IsTrueBy tables (instance_term d x)) is → IsFalseBy tables (instance_term d i) → AllByRecursion (λ x. x ≢ i) is
differs-from-all d tables [] i h k = tt
differs-from-all d tables (x ∷ is) i h k = (not-both d tables x i h.0 k, differs-from-all d tables is i h.1 k)

still-different : (is : List Instance) (i : Instance) → AreDifferent is → AllByRecursion (λ x. x ≢ i) is → AreDifferent (is ++ i ∷ [])
still-different [] i h k = (tt, tt)
still-different (x ∷ is) i h k = (all-append (λ y. x ≢ y) is (i ∷ []) h.0 (k.0, tt), still-different is i h.1 k.1)

-- ---- each breaks a candidate of those before it

-- so it is of each element and those before it
abbrev OfEach : {X : Type 0} → (List X → X → Type 0) → List X → Type 0
OfEach {X} P xs = (j : ℕ) (x : X) → slice_get xs j ≡ Some x → P (take j xs) x

one-more : {X : Type 0} (P : List X → X → Type 0) (xs : List X) (y : X) → OfEach P xs → P xs y → OfEach P (xs ++ y ∷ [])
one-more P [] y h k zero x e = let same : y ≡ x = cc in subst (P []) same k
one-more P [] y h k (suc j) x e = absurd cc
one-more P (z ∷ xs) y h k zero x e = h zero x e
one-more P (z ∷ xs) y h k (suc j) x e = one-more (λ zs. P (z ∷ zs)) xs y (λ i w f. h (suc i) w f) k j x e

-- ---- progress

pub no-progress : (d : Design) (level : ℕ) (formula : Term) → Progress d level formula []
no-progress d level formula = record { fit = tt; different = tt; broke = λ j i e. absurd cc }

pub more-progress : (d : Design) (level : ℕ) (formula : Term) (is : List Instance) → Progress d level formula is → (tables : Tables) → IsCandidate d level formula is tables
    → (i : Instance) → Fits d level i → IsFalseBy tables (instance_term d i) → Progress d level formula (is ++ i ∷ [])
more-progress d level formula is p tables c i fit broken = record {
  fit = all-append (Fits d level) is (i ∷ []) p.fit (fit, tt);
  different = still-different is i p.different (differs-from-all d tables is i c.instances_ broken);
  broke = one-more (Breaks d level formula) is i p.broke (record { tables = tables; candidate = c; false_ = broken });
}
