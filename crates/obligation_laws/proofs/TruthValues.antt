-- Truth of terms: of chains and of what is not true.
use Rattle.std.proofs.Common.{◌≡◌, ℕ, Bool, true, false, ◌&&◌, refl, sym, ap, ◌∙◌}
use Rattle.std.specs.Prelude.{not}
use Rattle.cocoon_num.specs.Values.{number, truth, apply_unary, flip}
use Rattle.bv_terms.specs.declared.node.TermOp.TheVariants as ops
use Rattle.bv_terms.specs.TermTrees as term
use Rattle.bv_terms.specs.TermTrees.{Term}
use Rattle.bv_terms.specs.TermValues.{Functions, Inputs, number_in, operated, term_number, term_value}
use Rattle.obligation_laws.proofs.OperatorTerms.{shown}
use Rattle.obligation_laws.specs.Meant.{IsOne}
use Rattle.obligation_laws.specs.States.{and_with}

-- the term is true or false
abbrev pub IsBit : Functions → Inputs → Term → Type 0
IsBit F ins t = (b : Bool) × (term_value F ins t ≡ shown (truth b))

and_bits : (a b : Bool) → operated ops.And (shown (truth a)) (shown (truth b)) ≡ shown (truth (a && b))
and_bits true true = refl
and_bits true false = refl
and_bits false true = refl
and_bits false false = refl

flipped : (b : Bool) → term_number (apply_unary flip (shown (truth b))) ≡ shown (truth (not b))
flipped true = refl
flipped false = refl

one_is_true : (b : Bool) → shown (truth b) ≡ number 1 1 → b ≡ true
one_is_true true h = refl
one_is_true false h = let e : ◌≡◌ {A = ℕ} 0 1 = ap number_in h in absurd (cc)

true_is_one : (b : Bool) → b ≡ true → shown (truth b) ≡ number 1 1
true_is_one true h = refl
true_is_one false h = absurd (cc)

both_true : (a b : Bool) → (a && b) ≡ true → (a ≡ true) × (b ≡ true)
both_true true b h = (refl, h)
both_true false b h = absurd (cc)

true_both : (a b : Bool) → a ≡ true → b ≡ true → (a && b) ≡ true
true_both true b h k = k
true_both false b h k = absurd (cc)

module _ (F : Functions) (ins : Inputs) where
  pub holds : (t : Term) (b : Bool) → term_value F ins t ≡ shown (truth b) → IsOne F ins t → b ≡ true
  holds t b e h = one_is_true b (sym e ∙ h)

  pub is_one : (t : Term) (b : Bool) → term_value F ins t ≡ shown (truth b) → b ≡ true → IsOne F ins t
  is_one t b e h = e ∙ true_is_one b h

  and_is : (c t : Term) (a b : Bool) → term_value F ins c ≡ shown (truth a) → term_value F ins t ≡ shown (truth b) → term_value F ins (and_with c t) ≡ shown (truth (a && b))
  and_is c t a b p q = (λ i. operated ops.And (p i) (q i)) ∙ and_bits a b

  pub and_bit : (c t : Term) → IsBit F ins c → IsBit F ins t → IsBit F ins (and_with c t)
  and_bit c t p q = (p.0 && q.0, and_is c t p.0 q.0 p.1 q.1)

  pub not_bit : (t : Term) (b : Bool) → term_value F ins t ≡ shown (truth b) → term_value F ins (term.not_ t) ≡ shown (truth (not b))
  not_bit t b e = ap (λ v. term_number (apply_unary flip v)) e ∙ flipped b

  -- a chain is true where its parts are
  pub parts_hold : (c t : Term) → IsBit F ins c → IsBit F ins t → IsOne F ins (and_with c t) → IsOne F ins c × IsOne F ins t
  parts_hold c t p q h =
      let b = both_true p.0 q.0 (holds (and_with c t) (p.0 && q.0) (and_is c t p.0 q.0 p.1 q.1) h) in
      (is_one c p.0 p.1 b.0, is_one t q.0 q.1 b.1)

  pub chain_holds : (c t : Term) → IsOne F ins c → IsOne F ins t → IsOne F ins (and_with c t)
  chain_holds c t p q = λ i. operated ops.And (p i) (q i)
