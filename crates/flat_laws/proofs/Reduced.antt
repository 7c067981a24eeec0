-- A goal whose applications are inputs is a term of the width.
use Rattle.std.proofs.Common.{◌≡◌, ℕ, ◌≤◌, ◌<◌, List, refl, sym, ap, subst, ◌∙◌}
use Rattle.bv_terms.specs.TermTrees.{Term, Args, constant, input, apply, not_, binary, slice, pick, no_args, arg, width, arg_widths, joined_width, OperandsFit, IsTerm, AreArgs}
use Rattle.flat_laws.specs.Flat.{reduced, reduced_args}

module _ (applied : List Term) (first : ℕ) where
  mutual
    pub reduced-width : (t : Term) → width (reduced applied first t) ≡ width t
    reduced-width (constant w n) = refl
    reduced-width (input i w) = refl
    reduced-width (apply f args w) = refl
    reduced-width (not_ a) = reduced-width a
    reduced-width (binary op a b) = ap (λ v. joined_width op v (width (reduced applied first b))) (reduced-width a) ∙ ap (joined_width op (width a)) (reduced-width b)
    reduced-width (slice a high low) = refl
    reduced-width (pick c a b) = reduced-width a

    pub reduced-widths : (ts : Args) → arg_widths (reduced_args applied first ts) ≡ arg_widths ts
    reduced-widths no_args = refl
    reduced-widths (arg t ts) = let e = reduced-width t in let d = reduced-widths ts in cc

  mutual
    pub reduced-term : (t : Term) → IsTerm t → IsTerm (reduced applied first t)
    reduced-term (constant w n) h = h
    reduced-term (input i w) h = h
    reduced-term (apply f args w) h = h.1
    reduced-term (not_ a) h = reduced-term a h
    reduced-term (binary op a b) h = (
      reduced-term a h.0,
      reduced-term b h.1,
      subst (OperandsFit op (width (reduced applied first a))) (sym (reduced-width b)) (subst (λ v. OperandsFit op v (width b)) (sym (reduced-width a)) h.2),
    )
    reduced-term (slice a high low) h = (reduced-term a h.0, h.1, subst (λ v. high < v) (sym (reduced-width a)) h.2)
    reduced-term (pick c a b) h = (
      reduced-term c h.0,
      reduced-term a h.1,
      reduced-term b h.2,
      reduced-width c ∙ h.3,
      reduced-width a ∙ h.4 ∙ sym (reduced-width b),
    )

    pub reduced-args : (ts : Args) → AreArgs ts → AreArgs (reduced_args applied first ts)
    reduced-args no_args h = tt
    reduced-args (arg t ts) h = (reduced-term t h.0, subst (λ v. v ≤ 64) (sym (reduced-width t)) h.1, reduced-args ts h.2)
