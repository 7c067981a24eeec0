-- Two functions that agree where a term applies them give it one value.
use Rattle.std.proofs.Common.{◌≡◌, ℕ, List, refl, ap, ◌∙◌}
use Rattle.cocoon_num.specs.Values.{number, apply_unary, apply_slice, flip}
use Rattle.bv_terms.specs.TermTrees.{Term, Args, constant, input, apply, not_, binary, slice, pick, no_args, arg}
use Rattle.bv_terms.specs.TermValues.{Functions, Inputs, arg_numbers, number_in, operated, term_number, term_value}
use Rattle.bv_terms.proofs.Subterms.{Each, EachArg}

module _ (F G : Functions) (ins : Inputs) where
  -- they agree at the function that the term applies
  abbrev pub Agree : Term → Type 0
  Agree (apply f args w) = (xs : List ℕ) → F f xs ≡ G f xs
  Agree (constant w n) = Unit {0}
  Agree (input i w) = Unit {0}
  Agree (not_ a) = Unit {0}
  Agree (binary op a b) = Unit {0}
  Agree (slice a high low) = Unit {0}
  Agree (pick c a b) = Unit {0}

  mutual
    pub same-value : (t : Term) → Each Agree t → term_value F ins t ≡ term_value G ins t
    same-value (constant w n) h = refl
    same-value (input k w) h = refl
    same-value (apply f args w) h = ap (number w) (h.1 (arg_numbers F ins args) ∙ ap (G f) (same-numbers args h.0))
    same-value (not_ a) h = ap (λ v. term_number (apply_unary flip v)) (same-value a h.0)
    same-value (binary op a b) h = ap (λ v. operated op v (term_value F ins b)) (same-value a h.0) ∙ ap (operated op (term_value G ins a)) (same-value b h.1)
    same-value (slice a high low) h = ap (λ v. term_number (apply_slice v high low)) (same-value a h.0)
    same-value (pick c a b) h = let x = same-value c h.0 in let y = same-value a h.1 in let w = same-value b h.2 in rw (x, y, w) refl

    same-numbers : (ts : Args) → EachArg Agree ts → arg_numbers F ins ts ≡ arg_numbers G ins ts
    same-numbers no_args h = refl
    same-numbers (arg t ts) h = let e = ap number_in (same-value t h.0) in let r = same-numbers ts h.1 in cc
