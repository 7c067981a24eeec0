-- Values fit the widths of terms.
use Rattle.std.proofs.Common.{◌≡◌, ℕ, ◌+◌, ◌-◌, ◌*◌, ◌/◌, ◌%◌, ◌^◌, ◌<◌, ◌≤◌, ◌==◌, nat_lt, bit_and, bit_or, bit_xor, Bool, true, false, List, [], ◌∷◌, refl, ap, sym, ◌∙◌, subst, arith, inl, inr}
use Rattle.std.specs.List.{AllZip}
use Rattle.std.proofs.lemmas.Nat.{and_le_l, or_lt, xor_lt, pow_pos}
use Rattle.std.proofs.lemmas.Bool.{cases_Bool, cond-true, cond-false, le-leb}
use Rattle.cocoon_num.specs.Values.{FitsWidth, Value, number, truth, apply_unary, apply_slice, flip}
use Rattle.cocoon_num.proofs.Widths.{shifted_below}
use Rattle.bv_terms.specs.declared.node.TermOp.{TermOp}
use Rattle.bv_terms.specs.declared.node.TermOp.TheVariants.{Add, Sub, And, Or, Xor, Concat, Equal, Less}
use Rattle.bv_terms.specs.TermTrees.{Term, Args, constant, input, apply, not_, binary, slice, pick, no_args, arg, width, arg_widths, joined_width, OperandsFit, IsTerm, AreArgs}
use Rattle.bv_terms.specs.TermValues.{Functions, Inputs, arg_numbers, number_in, term_number, operated, term_value}
use Rattle.bv_terms.specs.Inputs.{Applies, FunctionsFit, InputsFit, Mentions}
use Rattle.bv_terms.specs.Walks.{is_among, walk}
use Rattle.bv_terms.proofs.Subterms.{Each, EachArg, each-weaker, walk-has}
use Rattle.bv_terms.proofs.ValueFacts.{compared, computed, sliced-width}

-- the value is a number of the width, which fits it
abbrev pub HasFit : ℕ → Value → Type 0
HasFit w v = (n : ℕ) × (v ≡ number w n) × FitsWidth w n

-- ---- operators

mod-fits : (w n : ℕ) → n % 2 ^ w < 2 ^ w
mod-fits w n = let p = pow_pos w in omega arith

bit-fits : (b : Bool) → FitsWidth 1 (number_in (truth b))
bit-fits true = omega arith
bit-fits false = omega arith

operated-fits : (op : TermOp) (v w m n : ℕ) → OperandsFit op v w → FitsWidth v m → FitsWidth w n → HasFit (joined_width op v w) (operated op (number v m) (number w n))
operated-fits Add v w m n e h k = (_, computed (λ w a b. (a + b) % 2 ^ w) v w m n e, subst (λ x. (m + n) % 2 ^ x < 2 ^ v) e (mod-fits v (m + n)))
operated-fits Sub v w m n e h k = (_, computed (λ w a b. (a + 2 ^ w - b) % 2 ^ w) v w m n e, subst (λ x. (m + 2 ^ x - n) % 2 ^ x < 2 ^ v) e (mod-fits v (m + 2 ^ v - n)))
operated-fits And v w m n e h k = (_, computed (λ w a b. bit_and a b) v w m n e, (let l = and_le_l m n in omega arith))
operated-fits Or v w m n e h k = (_, computed (λ w a b. bit_or a b) v w m n e, or_lt v m n h (subst (λ x. n < 2 ^ x) (sym e) k))
operated-fits Xor v w m n e h k = (_, computed (λ w a b. bit_xor a b) v w m n e, xor_lt v m n h (subst (λ x. n < 2 ^ x) (sym e) k))
operated-fits Concat v w m n e h k = (m * 2 ^ w + n, rw (le-leb (v + w) 128 e) refl, shifted_below m v n w h k)
operated-fits Equal v w m n e h k = (_, compared (λ a b. a == b) v w m n e, bit-fits (m == n))
operated-fits Less v w m n e h k = (_, compared (λ a b. nat_lt a b) v w m n e, bit-fits (nat_lt m n))

-- ---- terms

-- an input or a function at the root of the term fits
abbrev FitsHere : Functions → Inputs → Term → Type 0
FitsHere F ins (input i w) = FitsWidth w (ins i)
FitsHere F ins (apply f args w) = (xs : List ℕ) → AllZip FitsWidth (arg_widths args) xs → FitsWidth w (F f xs)
FitsHere F ins t = Unit {0}

mutual
  fit : (F : Functions) (ins : Inputs) (t : Term) → IsTerm t → Each (FitsHere F ins) t → HasFit (width t) (term_value F ins t)
  fit F ins (constant w n) h e = (n, refl, h.1)
  fit F ins (input i w) h e = (ins i, refl, e)
  fit F ins (apply f args w) h e = (_, refl, e.1 (arg_numbers F ins args) (args-fit F ins args h.0 e.0))
  fit F ins (not_ a) h e =
      let r = fit F ins a h e.0 in
      (_, ap (λ v. term_number (apply_unary flip v)) r.1, (let p = pow_pos (width a) in omega arith))
  fit F ins (binary op a b) h e =
      let r = fit F ins a h.0 e.0 in
      let s = fit F ins b h.1 e.1 in
      let t = operated-fits op (width a) (width b) r.0 s.0 h.2 r.2 s.2 in
      (t.0, ap (λ v. operated op v (term_value F ins b)) r.1 ∙ ap (operated op (number (width a) r.0)) s.1 ∙ t.1, t.2)
  fit F ins (slice a high low) h e =
      let r = fit F ins a h.0 e.0 in
      (_, ap (λ v. term_number (apply_slice v high low)) r.1 ∙ sliced-width (width a) r.0 high low h.1 h.2, mod-fits (high - low + 1) (r.0 / 2 ^ low))
  fit F ins (pick c a b) h e =
      elim (cases_Bool (number_in (term_value F ins c) == 1)) [
        | inl t ↦ let r = fit F ins a h.1 e.1 in (r.0, cond-true _ _ _ t ∙ r.1, r.2)
        | inr t ↦ let r = fit F ins b h.2 e.2 in (r.0, cond-false _ _ _ t ∙ r.1 ∙ ap (λ k. number k r.0) (sym h.4), subst (λ k. FitsWidth k r.0) (sym h.4) r.2)
      ]

  args-fit : (F : Functions) (ins : Inputs) (ts : Args) → AreArgs ts → EachArg (FitsHere F ins) ts → AllZip FitsWidth (arg_widths ts) (arg_numbers F ins ts)
  args-fit F ins no_args h e = tt
  args-fit F ins (arg t ts) h e =
      let r = fit F ins t h.0 e.0 in
      (subst (FitsWidth (width t)) (sym (ap number_in r.1)) r.2, args-fit F ins ts h.2 e.1)

fits-here : (F : Functions) (ins : Inputs) (t : Term) → FunctionsFit t F → InputsFit t ins → (u : Term) → is_among (walk t []) u ≡ true → FitsHere F ins u
fits-here F ins t f i (input j w) m = i j w m
fits-here F ins t f i (apply g args w) m = f g w args m
fits-here F ins t f i (constant w n) m = tt
fits-here F ins t f i (not_ a) m = tt
fits-here F ins t f i (binary op a b) m = tt
fits-here F ins t f i (slice a high low) m = tt
fits-here F ins t f i (pick c a b) m = tt

pub values-fit : (t : Term) → IsTerm t → (F : Functions) (ins : Inputs) → FunctionsFit t F → InputsFit t ins
    → (n : ℕ) × (term_value F ins t ≡ number (width t) n) × FitsWidth (width t) n
values-fit t h F ins f i = fit F ins t h (each-weaker (λ u. is_among (walk t []) u ≡ true) (FitsHere F ins) (fits-here F ins t f i) t (walk-has t []))
