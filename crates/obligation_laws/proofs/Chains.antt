-- Truth of chains, of terms that are equal, and of formulas.
use Rattle.std.proofs.Common.{◌≡◌, inl, inr, ℕ, ◌==◌, ◌||◌, List, [], ◌∷◌, Bool, true, false, Some, None, if◌then◌else◌, refl, sym, ap, ◌∙◌}
use Rattle.cocoon_num.specs.Values.{number, truth}
use Rattle.bv_terms.specs.declared.node.TermOp.TheVariants as ops
use Rattle.bv_terms.specs.TermTrees as term
use Rattle.bv_terms.specs.TermTrees.{Term}
use Rattle.bv_terms.specs.TermValues.{Functions, Inputs, number_in, operated, term_number, term_value}
use Rattle.refinement.proofs.Lists.{same_number}
use Rattle.sound_types.proofs.Members.{In}
use Rattle.sound_types.proofs.Options.{same_self}
use Rattle.obligation_laws.specs.Shown.{HasNumber}
use Rattle.obligation_laws.proofs.OperatorTerms.{shown}
use Rattle.obligation_laws.specs.Meant.{IsOne}
use Rattle.obligation_laws.proofs.TruthValues.{IsBit, and_bit, chain_holds, holds, is_one, not_bit, parts_hold}
use Rattle.obligation_laws.proofs.Replaced.{of_width}
use Rattle.obligation_laws.specs.Formulas.{any_of, chain}

or_bits : (a b : Bool) → operated ops.Or (shown (truth a)) (shown (truth b)) ≡ shown (truth (a || b))
or_bits true true = refl
or_bits true false = refl
or_bits false true = refl
or_bits false false = refl

-- equal numbers of a width, or different ones
compared : (w m n : ℕ) → operated ops.Equal (number w m) (number w n) ≡ shown (truth (m == n))
compared w m n = ap (λ b. term_number (if b then Some (truth (m == n)) else None)) (same_self w)

module _ (F : Functions) (ins : Inputs) where
  abbrev pub AllBits : List Term → Type 0
  AllBits [] = Unit {0}
  AllBits (t ∷ ts) = IsBit F ins t × AllBits ts

  abbrev pub AllOne : List Term → Type 0
  AllOne [] = Unit {0}
  AllOne (t ∷ ts) = IsOne F ins t × AllOne ts

  -- ---- conjunctions

  pub chain_bit : (t : Term) (us : List Term) → IsBit F ins t → AllBits us → IsBit F ins (chain ops.And t us)
  chain_bit t [] h k = h
  chain_bit t (u ∷ us) h k = chain_bit (term.binary ops.And t u) us (and_bit F ins t u h k.0) k.1

  pub chain_true : (t : Term) (us : List Term) → IsBit F ins t → AllBits us → IsOne F ins (chain ops.And t us) → IsOne F ins t × AllOne us
  chain_true t [] h k one = (one, tt)
  chain_true t (u ∷ us) h k one =
      let r = chain_true (term.binary ops.And t u) us (and_bit F ins t u h k.0) k.1 one in
      let p = parts_hold F ins t u h k.0 r.0 in
      (p.0, (p.1, r.1))

  -- ---- disjunctions

  or_is : (t u : Term) (a b : Bool) → term_value F ins t ≡ shown (truth a) → term_value F ins u ≡ shown (truth b) → term_value F ins (term.binary ops.Or t u) ≡ shown (truth (a || b))
  or_is t u a b p q = (λ i. operated ops.Or (p i) (q i)) ∙ or_bits a b

  or_bit : (t u : Term) → IsBit F ins t → IsBit F ins u → IsBit F ins (term.binary ops.Or t u)
  or_bit t u p q = (p.0 || q.0, or_is t u p.0 q.0 p.1 q.1)

  either_one : (t u : Term) → IsBit F ins t → IsBit F ins u → IsOne F ins (term.binary ops.Or t u) → (v : Term) × In v (t ∷ u ∷ []) × IsOne F ins v
  either_one t u p q one = by p.0 p.1 (holds F ins (term.binary ops.Or t u) (p.0 || q.0) (or_is t u p.0 q.0 p.1 q.1) one)
    where
      by : (a : Bool) → term_value F ins t ≡ shown (truth a) → (a || q.0) ≡ true → (v : Term) × In v (t ∷ u ∷ []) × IsOne F ins v
      by true e h = (t, inl refl, is_one F ins t true e refl)
      by false e h = (u, inr (inl refl), is_one F ins u q.0 q.1 h)

  ors_bit : (t : Term) (us : List Term) → IsBit F ins t → AllBits us → IsBit F ins (chain ops.Or t us)
  ors_bit t [] h k = h
  ors_bit t (u ∷ us) h k = ors_bit (term.binary ops.Or t u) us (or_bit t u h k.0) k.1

  ors_true : (t : Term) (us : List Term) → IsBit F ins t → AllBits us → IsOne F ins (chain ops.Or t us) → (v : Term) × In v (t ∷ us) × IsOne F ins v
  ors_true t [] h k one = (t, inl refl, one)
  ors_true t (u ∷ us) h k one =
      let r = ors_true (term.binary ops.Or t u) us (or_bit t u h k.0) k.1 one in
      elim r.1 [
        | inl same ↦
            let e = either_one t u h k.0 (ap (term_value F ins) (sym same) ∙ r.2) in
            (e.0, elim e.1 [ inl p ↦ inl p | inr p ↦ elim p [ inl q ↦ inr (inl q) | inr n ↦ absurd n ] ], e.2)
        | inr i ↦ (r.0, inr (inr i), r.2)
      ]

  pub any_bit : (ts : List Term) → AllBits ts → IsBit F ins (any_of ts)
  any_bit [] h = (false, refl)
  any_bit (t ∷ ts) h = ors_bit t ts h.0 h.1

  -- one of some terms is true, if one of them is said to be
  pub any_true : (ts : List Term) → AllBits ts → IsOne F ins (any_of ts) → (v : Term) × In v ts × IsOne F ins v
  any_true [] h one = let e : ◌≡◌ {A = ℕ} 0 1 = ap number_in one in absurd (cc)
  any_true (t ∷ ts) h one = ors_true t ts h.0 h.1 one

  -- ---- terms that are equal

  pub record Compared (t u : Term) : Type 0 where
    pub bit : IsBit F ins (term.binary ops.Equal t u)
    pub same : IsOne F ins (term.binary ops.Equal t u) → number_in (term_value F ins t) ≡ number_in (term_value F ins u)

  pub compare : (w : ℕ) (t u : Term) → HasNumber F ins w t → HasNumber F ins w u → Compared t u
  compare w t u h k =
      let m = number_in (term_value F ins t) in
      let n = number_in (term_value F ins u) in
      let e : term_value F ins (term.binary ops.Equal t u) ≡ shown (truth (m == n)) =
      (λ i. operated ops.Equal (of_width w (term_value F ins t) h i) (of_width w (term_value F ins u) k i)) ∙ compared w m n in
      record { bit = (m == n, e); same = λ one. same_number m n (holds F ins (term.binary ops.Equal t u) (m == n) e one) }

  -- ---- formulas

  -- a leaf that is true, and does not fail, has a part that is true
  pub kept_true : (c : Term) (ts : List Term) → AllBits ts → IsOne F ins c → (IsOne F ins (term.binary ops.And c (term.not_ (any_of ts))) → ⊥) → (v : Term) × In v ts × IsOne F ins v
  kept_true c ts bits one never = by (any_bit ts bits).0 (any_bit ts bits).1
    where
      by : (b : Bool) → term_value F ins (any_of ts) ≡ shown (truth b) → (v : Term) × In v ts × IsOne F ins v
      by true e = any_true ts bits (is_one F ins (any_of ts) true e refl)
      by false e = absurd (never (chain_holds F ins c (term.not_ (any_of ts)) one (not_bit F ins (any_of ts) false e)))
