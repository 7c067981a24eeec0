-- The inputs of a flat goal fit.
use Rattle.std.proofs.Common.{◌≡◌, ℕ, ◌+◌, true, List, [], ◌∷◌, fold, refl, sym, ap, subst, ◌∙◌}
use Rattle.std.specs.List.{AllByRecursion, AllZip}
use Rattle.cocoon_num.specs.Values.{FitsWidth}
use Rattle.bv_terms.specs.declared.node.TermOp.TheVariants.{And}
use Rattle.bv_terms.specs.Inputs.{FunctionsFit, InputsFit}
use Rattle.bv_terms.specs.TermTrees.{Term, Args, constant, input, apply, not_, binary, slice, pick, no_args, arg, width, arg_widths, AreArgs}
use Rattle.bv_terms.specs.TermValues.{Functions, Inputs, arg_numbers, number_in, term_value}
use Rattle.bv_terms.specs.Walks.{applications, is_among, walk}
use Rattle.bv_terms.proofs.Subterms.{Each, EachArg, in-list, in-walk, walk-all, walk-has}
use Rattle.bv_terms.specs.Chains.{chain}
use Rattle.flat_laws.proofs.FittingValues.{values-fit}
use Rattle.flat_laws.specs.Flat.{agreement, agreements, equal_args, flattened, place_in, reduced, reduced_args, same_function}
use Rattle.flat_laws.specs.Meant.{CanFlatten, with_results}
use Rattle.flat_laws.specs.Rows.{AllFit}
use Rattle.flat_laws.proofs.Kept.{all-agree, all-in, has-place, is-term, new-input, old-input}
use Rattle.flat_laws.proofs.Places.{Applied}

module _ (goal : Term) (first : ℕ) (z : CanFlatten goal first) where
  abbrev applied : List Term
  applied = applications goal

  abbrev In : Term → Type 0
  In u = is_among (walk goal []) u ≡ true

  module _ (ins : Inputs) (fit : AllFit goal first ins) where
    abbrev Fits : Term → Type 0
    Fits (input i w) = FitsWidth w (ins i)
    Fits (constant w n) = Unit {0}
    Fits (apply f args w) = Unit {0}
    Fits (not_ a) = Unit {0}
    Fits (binary op a b) = Unit {0}
    Fits (slice a high low) = Unit {0}
    Fits (pick c a b) = Unit {0}

    each-fits : (t : Term) → Each In t → Each Fits (reduced applied first t)
    each-fits (constant w n) h = tt
    each-fits (input i w) h = fit.inputs i w h
    each-fits (apply f args w) h = fit.results f w args h.1
    each-fits (not_ a) h = (each-fits a h.0, tt)
    each-fits (binary op a b) h = (each-fits a h.0, each-fits b h.1, tt)
    each-fits (slice a high low) h = (each-fits a h.0, tt)
    each-fits (pick c a b) h = (each-fits c h.0, each-fits a h.1, each-fits b h.2, tt)

    ands-each : (t : Term) (ts : List Term) → Each Fits t → AllByRecursion (Each Fits) ts → Each Fits (fold (binary And) t ts)
    ands-each t [] h k = h
    ands-each t (u ∷ us) h k = ands-each (binary And t u) us (h, k.0, tt) k.1

    chain-each : (ts : List Term) → AllByRecursion (Each Fits) ts → Each Fits (chain And (constant 1 1) ts)
    chain-each [] h = tt
    chain-each (t ∷ ts) h = ands-each t ts h.0 h.1

    equals-each : (ts us : Args) → EachArg In ts → EachArg In us → AllByRecursion (Each Fits) (equal_args (reduced_args applied first ts) (reduced_args applied first us))
    equals-each no_args us h k = tt
    equals-each (arg t ts) no_args h k = tt
    equals-each (arg t ts) (arg u us) h k = ((each-fits t h.0, each-fits u k.0, tt), equals-each ts us h.1 k.1)

    agreement-each : (t u : Term) → Applied (Each In) t → Applied (Each In) u → same_function t u ≡ true → Each Fits (agreement applied first t u)
    agreement-each (apply f ts v) (apply g us w) h k s = (
      (chain-each (equal_args (reduced_args applied first ts) (reduced_args applied first us)) (equals-each ts us h.0.0 k.0.0), tt),
      (each-fits (apply f ts v) h.0, each-fits (apply g us w) k.0, tt),
      tt,
    )
    agreement-each t u h k s = absurd cc

    flat-fits : InputsFit (flattened goal first) ins
    flat-fits = λ i w m. in-walk Fits (flattened goal first) (input i w)
        (ands-each (reduced applied first goal) (agreements applied first [] applied) (each-fits goal (walk-has goal []))
        (all-agree applied first (Applied (Each In)) (Each Fits) agreement-each [] applied tt (all-in goal first z))) m

  module _ (F : Functions) (ins : Inputs) (functions : FunctionsFit goal F) (inputs : InputsFit goal ins) where
    args-fit : (ts : Args) → AreArgs ts → EachArg In ts → AllZip FitsWidth (arg_widths ts) (arg_numbers F ins ts)
    args-fit no_args i h = tt
    args-fit (arg t ts) i h =
        let r = values-fit t i.0 F ins (λ f w xs m. functions f w xs (in-walk In t (apply f xs w) h.0 m)) (λ j w m. inputs j w (in-walk In t (input j w) h.0 m)) in
        (subst (FitsWidth (width t)) (sym (ap number_in r.1)) r.2, args-fit ts i.2 h.1)

    results-fit : AllFit goal first (with_results F ins goal first)
    results-fit = record {
      inputs = λ i w m. subst (FitsWidth w) (sym (old-input goal first z F F ins i (z.below i w m))) (inputs i w m);
      results = λ f w args m.
          let u = apply f args w in
          let each = in-list (Each In) (walk goal []) u (walk-all In goal [] (walk-has goal []) tt) m in
          let e : with_results F ins goal first (first + place_in applied u) ≡ F f (arg_numbers F ins args)
          = new-input goal first z F F ins (place_in applied u) ∙ ap (λ t. number_in (term_value F ins t)) (has-place goal first z u m refl) in
          subst (FitsWidth w) (sym e) (functions f w args m (arg_numbers F ins args) (args-fit args (is-term goal first z u m).0 each.0));
    }

pub flat-inputs : (goal : Term) (first : ℕ) → CanFlatten goal first → (ins : Inputs) → AllFit goal first ins → InputsFit (flattened goal first) ins
flat-inputs goal first z ins fit = flat-fits goal first z ins fit

pub results-are-fit : (goal : Term) (first : ℕ) → CanFlatten goal first → (F : Functions) (ins : Inputs) → FunctionsFit goal F → InputsFit goal ins → AllFit goal first (with_results F ins goal first)
results-are-fit goal first z F ins f i = results-fit goal first z F ins f i
