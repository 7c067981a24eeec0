-- Each tuple has one term for each parameter, and what holds of arguments of the goal at their widths holds of these.
use Rattle.std.proofs.Common.{◌≡◌, ℕ, suc, ◌==◌, Bool, true, false, List, [], ◌∷◌, filter, fold, length, Some, if◌then◌else◌, refl, ap, ◌∙◌, arith}
use Rattle.std.specs.Prelude.{filter_map, flat_map, slice_get}
use Rattle.std.specs.List.{AllByRecursion, AllZip, list_any}
use Rattle.std.proofs.lemmas.Bool.{eqb-true}
use Rattle.std.proofs.lemmas.List.{length-map}
use Rattle.cocoon_num.specs.Tree.{Param, AssumeDecl, Design}
use Rattle.cocoon_resolve.specs.Readers.{assumptions_to}
use Rattle.cocoon_types.specs.Design.{widths_of}
use Rattle.bv_terms.specs.TermTrees.{Term, Args, constant, input, apply, not_, binary, slice, pick, no_args, arg, width}
use Rattle.bv_terms.specs.Walks.{applications, is_application, walk}
use Rattle.bv_terms.proofs.Subterms.{Each, EachArg, each-itself, walk-all}
use Rattle.fun_instances.specs.AssumptionTerms.{own_term}
use Rattle.query_laws.specs.Over.{IsOver}
use Rattle.query_laws.specs.Patterns.{pattern_of, patterns}
use Rattle.query_laws.specs.Tuples.{Taken, distinct_tuples, pattern_tuples, same_tuple, taken_of, tuple_of, tuples_at, tuples_of, with_tuple, most_instances}
use Rattle.query_laws.proofs.Lists.{all-flat, all-if, all-kept, all-mapped, all-places, all-taken, all-weaker}
use Rattle.query_laws.proofs.OverParts.{OverHere, over-parts}
use Rattle.query_laws.proofs.PatternFits.{AppliedAre, ArgsAre, PatternFits, own_inputs, pattern-fits, tuple-fits}

-- ---- applications of a walk

filtered : (P : Term → Type 0) (b : Bool) (t : Term) (ts : List Term) → P t → AllByRecursion P ts → AllByRecursion P (if b then t ∷ ts else ts)
filtered P true t ts p h = (p, h)
filtered P false t ts p h = h

all-applied : (P : Term → Type 0) (ts : List Term) → AllByRecursion P ts → AllByRecursion P (filter is_application ts)
all-applied P [] h = tt
all-applied P (t ∷ ts) h = filtered P (is_application t) t (filter is_application ts) h.0 (all-applied P ts h.1)

pub each-applied : (P : Term → Type 0) (t : Term) → Each P t → AllByRecursion (Each P) (applications t)
each-applied P t h = all-applied (Each P) (walk t []) (walk-all P t [] h tt)

-- the patterns of a term over a design
pub patterns-fit : (d : Design) (a : AssumeDecl) → IsOver d (own_inputs (widths_of a.params)) (own_term d a) → AllByRecursion (PatternFits d (widths_of a.params)) (patterns d a)
patterns-fit d a over =
    let ws = widths_of a.params in
    all-kept (IsOver d (own_inputs ws)) (PatternFits d ws) (pattern_of (length a.params))
    (λ t h p e. pattern-fits d ws t h p (ap (λ n. pattern_of n t) (length-map a.params (λ (p : Param). p.width)) ∙ e))
    (applications (own_term d a))
    (all-weaker (Each (IsOver d (own_inputs ws))) (IsOver d (own_inputs ws)) (λ t. each-itself (IsOver d (own_inputs ws)) t) (applications (own_term d a))
    (each-applied (IsOver d (own_inputs ws)) (own_term d a) (over-parts d (own_inputs ws) (own_term d a) over)))

-- ---- tuples

module _ (d : Design) (R : ℕ → Term → Type 0) (inputs : ℕ → ℕ → Bool) (goal : Term) (good : Each (λ u. OverHere d inputs u × R (width u) u) goal) where
  abbrev Good : Term → Type 0
  Good u = OverHere d inputs u × R (width u) u

  good-args : (ts : Args) → EachArg Good ts → ArgsAre d R ts
  good-args no_args h = tt
  good-args (arg t ts) h = ((each-itself Good t h.0).1, good-args ts h.1)

  good-applied : (t : Term) → Each Good t → AppliedAre d R t
  good-applied (apply f args w) h = (good-args args h.0, h.1.0)
  good-applied (constant w n) h = tt
  good-applied (input i w) h = tt
  good-applied (not_ a) h = tt
  good-applied (binary op a b) h = tt
  good-applied (slice a high low) h = tt
  good-applied (pick c a b) h = tt

  all-good : AllByRecursion (AppliedAre d R) (applications goal)
  all-good = all-weaker (Each Good) (AppliedAre d R) good-applied (applications goal) (each-applied Good goal good)

  module _ (a : AssumeDecl) (over : IsOver d (own_inputs (widths_of a.params)) (own_term d a)) where
    abbrev Fits : List Term → Type 0
    Fits ts = AllZip R (widths_of a.params) ts

    at-fit : (t : Term) → AppliedAre d R t → AllByRecursion Fits (filter_map (tuple_of t) (patterns d a))
    at-fit t h =
        all-kept (PatternFits d (widths_of a.params)) Fits (tuple_of t) (λ p fit ts e. tuple-fits d R (widths_of a.params) p fit t h ts e)
        (patterns d a) (patterns-fit d a over)

    all-at : AllByRecursion Fits (tuples_at (patterns d a) (applications goal))
    all-at = all-flat (AppliedAre d R) Fits (λ t. filter_map (tuple_of t) (patterns d a)) at-fit (applications goal) all-good

    distinct-fit : (seen tuples : List (List Term)) → AllByRecursion Fits seen → AllByRecursion Fits tuples → AllByRecursion Fits (fold with_tuple seen tuples)
    distinct-fit seen [] h k = h
    distinct-fit seen (ts ∷ tuples) h k =
        distinct-fit (with_tuple seen ts) tuples (all-if Fits (list_any (λ us. same_tuple us ts) seen) seen ts h k.0) k.1

    no-params : (ps : List Param) → (length ps == 0) ≡ true → AllZip R (widths_of ps) []
    no-params [] e = tt
    no-params (p ∷ ps) e = absurd (let none : suc (length ps) ≡ 0 = eqb-true (suc (length ps)) 0 e in omega (arith, none))

    pub tuples-fit : AllByRecursion Fits (tuples_of d a goal)
    tuples-fit = by (length a.params == 0) refl
      where
        by : (b : Bool) → (length a.params == 0) ≡ b → AllByRecursion Fits (if b then [] ∷ [] else distinct_tuples (tuples_at (patterns d a) (applications goal)))
        by true e = (no-params a.params e, tt)
        by false e = distinct-fit [] (tuples_at (patterns d a) (applications goal)) tt all-at

  -- an assumption of these levels, at terms that fit its parameters
  pub record TakenFits (level : ℕ) (x : Taken) : Type 0 where
    pub number : ℕ
    pub is : slice_get (assumptions_to level d) number ≡ Some x.assumption
    pub fits : AllZip R (widths_of x.assumption.params) x.terms

  pub taken-fit : (level : ℕ) → ((n : ℕ) (a : AssumeDecl) → slice_get (assumptions_to level d) n ≡ Some a → IsOver d (own_inputs (widths_of a.params)) (own_term d a))
      → AllByRecursion (TakenFits level) (pattern_tuples d level goal)
  taken-fit level over =
      all-taken (TakenFits level) most_instances (flat_map (taken_of d goal) (assumptions_to level d))
      (all-flat At (TakenFits level) (taken_of d goal)
      (λ a at. all-mapped (λ ts. AllZip R (widths_of a.params) ts) (TakenFits level) (λ ts. record { assumption = a; terms = ts })
      (λ ts fit. record { number = at.0; is = at.1; fits = fit }) (tuples_of d a goal) (tuples-fit a (over at.0 a at.1)))
      (assumptions_to level d) (all-places At (assumptions_to level d) (λ n a is. (n, is))))
    where
      At : AssumeDecl → Type 0
      At a = (n : ℕ) × (slice_get (assumptions_to level d) n ≡ Some a)
