-- Values of terms have the widths of the terms.
use Rattle.std.proofs.Common.{◌≡◌, ℕ, ◌+◌, ◌-◌, ◌*◌, ◌/◌, ◌%◌, ◌^◌, ◌<◌, ◌≤◌, ◌==◌, nat_le, nat_lt, bit_and, bit_or, bit_xor, Bool, refl, ap, sym, ◌∙◌, inl, inr}
use Rattle.std.proofs.lemmas.Bool.{eq-eqb, le-leb, lt-ltb, and_from, cases_Bool, cond-true, cond-false}
use Rattle.cocoon_num.specs.Values.{Value, number, truth, apply_unary, apply_slice, flip, worked, computes, compares}
use Rattle.bv_terms.specs.declared.node.TermOp.{TermOp}
use Rattle.bv_terms.specs.declared.node.TermOp.TheVariants.{Add, Sub, And, Or, Xor, Concat, Equal, Less}
use Rattle.bv_terms.specs.TermTrees.{Term, constant, input, apply, not_, binary, slice, pick, width, joined_width, OperandsFit, IsTerm}
use Rattle.bv_terms.specs.TermValues.{Functions, Inputs, number_in, term_number, operated, term_value}

-- a number of the width
pub HasWidth : ℕ → Value → Type 0
HasWidth w v = (n : ℕ) × (v ≡ number w n)

pub computed : (f : ℕ → ℕ → ℕ → ℕ) (v w m n : ℕ) → v ≡ w → term_number (worked (computes f) (number v m) (number w n)) ≡ number v (f w m n)
computed f v w m n e = rw (eq-eqb v w e) (ap (λ k. number k (f w m n)) (sym e))

pub compared : (f : ℕ → ℕ → Bool) (v w m n : ℕ) → v ≡ w → term_number (worked (compares f) (number v m) (number w n)) ≡ number 1 (number_in (truth (f m n)))
compared f v w m n e = rw (eq-eqb v w e) refl

operated-width : (op : TermOp) (v w m n : ℕ) → OperandsFit op v w → (k : ℕ) × (operated op (number v m) (number w n) ≡ number (joined_width op v w) k)
operated-width Add v w m n e = (_, computed (λ w a b. (a + b) % 2 ^ w) v w m n e)
operated-width Sub v w m n e = (_, computed (λ w a b. (a + 2 ^ w - b) % 2 ^ w) v w m n e)
operated-width And v w m n e = (_, computed (λ w a b. bit_and a b) v w m n e)
operated-width Or v w m n e = (_, computed (λ w a b. bit_or a b) v w m n e)
operated-width Xor v w m n e = (_, computed (λ w a b. bit_xor a b) v w m n e)
operated-width Concat v w m n e = (m * 2 ^ w + n, rw (le-leb (v + w) 128 e) refl)
operated-width Equal v w m n e = (_, compared (λ a b. a == b) v w m n e)
operated-width Less v w m n e = (_, compared (λ a b. nat_lt a b) v w m n e)

pub sliced-width : (w n high low : ℕ) → low ≤ high → high < w → term_number (apply_slice (number w n) high low) ≡ number (high - low + 1) (n / 2 ^ low % 2 ^ (high - low + 1))
sliced-width w n high low h k = rw (and_from (nat_le low high) (nat_lt high w) (le-leb low high h) (lt-ltb high w k)) refl

pub HasWidth-along : (v w : ℕ) (x : Value) → v ≡ w → (n : ℕ) × (x ≡ number v n) → (n : ℕ) × (x ≡ number w n)
HasWidth-along v w x e h = (h.0, h.1 ∙ ap (λ k. number k h.0) e)

pub value-width : (F : Functions) (ins : Inputs) (t : Term) → IsTerm t → (n : ℕ) × (term_value F ins t ≡ number (width t) n)
value-width F ins (constant w n) h = (n, refl)
value-width F ins (input i w) h = (ins i, refl)
value-width F ins (apply f args w) h = (_, refl)
value-width F ins (not_ a) h =
    let r = value-width F ins a h in (_, ap (λ v. term_number (apply_unary flip v)) r.1)
value-width F ins (binary op a b) h =
    let r = value-width F ins a h.0 in
    let s = value-width F ins b h.1 in
    let t = operated-width op (width a) (width b) r.0 s.0 h.2 in
    (t.0, ap (λ v. operated op v (term_value F ins b)) r.1 ∙ ap (operated op (number (width a) r.0)) s.1 ∙ t.1)
value-width F ins (slice a high low) h =
    let r = value-width F ins a h.0 in
    (_, ap (λ v. term_number (apply_slice v high low)) r.1 ∙ sliced-width (width a) r.0 high low h.1 h.2)
value-width F ins (pick c a b) h =
    elim (cases_Bool (number_in (term_value F ins c) == 1)) [
      | inl e ↦ let r = value-width F ins a h.1 in (r.0, cond-true _ _ _ e ∙ r.1)
      | inr e ↦ let r = value-width F ins b h.2 in (r.0, cond-false _ _ _ e ∙ r.1 ∙ ap (λ k. number k r.0) (sym h.4))
    ]
