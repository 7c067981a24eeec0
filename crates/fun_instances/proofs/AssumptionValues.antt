-- Values of the terms of assumptions.
use Rattle.std.proofs.Common.{◌≡◌, ℕ, ◌<◌, ◌^◌, List, [], ◌∷◌, Bool, true, false, Option, Some, None, if◌then◌else◌, option_map, refl, sym, ap, ◌∙◌}
use Rattle.std.specs.List.{AllZip}
use Rattle.std.proofs.lemmas.Bool.{lt-ltb, ltb-true}
use Rattle.cocoon_num.specs.PacketForms.{FieldsFit}
use Rattle.cocoon_num.specs.Sorts.{bits_sort, truth_sort}
use Rattle.cocoon_num.specs.Tree.{Param, AssumeDecl, Design}
use Rattle.cocoon_num.specs.Values.{Value, number, truth, fits_width}
use Rattle.cocoon_types.specs.Design.{last_level, widths_of}
use Rattle.cocoon_types.specs.Rules.{WellFormed}
use Rattle.cocoon_types.specs.Tables.{Defs}
use Rattle.cocoon_types.specs.Val.{Env, bind, bound, context, value}
use Rattle.bv_terms.specs.TermTrees.{Term}
use Rattle.bv_terms.specs.TermValues.{Functions, Inputs, number_in, term_number, term_value}
use Rattle.refinement.specs.Assumptions.{IsMet}
use Rattle.sound_types.specs.Literals.{DesignLiteralsFit}
use Rattle.sound_types.specs.Matching.{Binds, IsOfSort}
use Rattle.sound_types.specs.WellTyped.{HasType, scope_at}
use Rattle.sound_types.proofs.Declared.{names_differ, typed_bodies}
use Rattle.obligation_laws.specs.Shown.{HasNumber, env_of, functions_by, numbers_of}
use Rattle.obligation_laws.specs.TermOf.{bind_terms, term_context}
use Rattle.obligation_laws.proofs.Typings.{everywhere, typed_everywhere}
use Rattle.obligation_laws.proofs.ExprValues.{RowsFit, ShownAs, calls_shown, value_shown}
use Rattle.fun_instances.specs.AssumptionTerms.{assumption_term, number_terms, value_term}
use Rattle.fun_instances.specs.Saying.{IsTrueUnder, SaysOf}
use Rattle.fun_instances.specs.Taking.{NumbersFit, TermsFit}

-- ---- parameters

one_number : (w : ℕ) (v : Value) → IsOfSort (bits_sort w) v → (v ≡ number w (number_in v)) × (number_in v < 2 ^ w)
one_number w (number x n) h = (ap (λ y. number y n) h.0, h.1)
one_number w (truth b) h = absurd h

-- terms with values bind parameters to these
pub bound_are : (F : Functions) (ins : Inputs) (ps : List Param) (ts : List Term) → AllZip (HasNumber F ins) (widths_of ps) ts
    → (bind ps (numbers_of F ins ts) ≡ Some (env_of F ins (bind_terms ps ts))) × Binds ps (env_of F ins (bind_terms ps ts))
bound_are F ins [] [] h = (refl, tt)
bound_are F ins [] (t ∷ ts) h = absurd h
bound_are F ins (p ∷ ps) [] h = absurd h
bound_are F ins (p ∷ ps) (t ∷ ts) h =
    let v = one_number p.width (term_value F ins t) h.0 in
    let r = bound_are F ins ps ts h.1 in (
      (λ i. if lt-ltb (number_in (term_value F ins t)) (2 ^ p.width) v.1 i then option_map (bound p.name.text (number p.width (number_in (term_value F ins t)))) (r.0 i) else None)
          ∙ ap (λ x. Some (bound p.name.text x (env_of F ins (bind_terms ps ts)))) (sym v.0),
      (refl, h.0, r.1),
    )

-- numbers that fit are terms with these values
pub numbers_are : (F : Functions) (ins : Inputs) (ws ns : List ℕ) → FieldsFit ws ns → AllZip (HasNumber F ins) ws (number_terms ws ns) × (numbers_of F ins (number_terms ws ns) ≡ ns)
numbers_are F ins [] [] h = (tt, refl)
numbers_are F ins [] (n ∷ ns) h = absurd h
numbers_are F ins (w ∷ ws) [] h = absurd h
numbers_are F ins (w ∷ ws) (n ∷ ns) h = let r = numbers_are F ins ws ns h.1 in (((refl, h.0), r.0), ap (λ ms. n ∷ ms) r.1)

-- numbers that are bound fit
pub bound_fit : (ps : List Param) (ns : List ℕ) (env : Env) → bind ps ns ≡ Some env → FieldsFit (widths_of ps) ns
bound_fit [] [] env h = tt
bound_fit [] (n ∷ ns) env h = absurd (cc)
bound_fit (p ∷ ps) [] env h = absurd (cc)
bound_fit (p ∷ ps) (n ∷ ns) env h = by (fits_width p.width n) refl (bind ps ns) (λ rest is. bound_fit ps ns rest is) h
  where
    by : (b : Bool) → fits_width p.width n ≡ b → (r : Option Env) → ((rest : Env) → r ≡ Some rest → FieldsFit (widths_of ps) ns)
        → (if b then option_map (bound p.name.text (number p.width n)) r else None) ≡ Some env → FieldsFit (widths_of (p ∷ ps)) (n ∷ ns)
    by true e (Some rest) inner k = (ltb-true n (2 ^ p.width) e, inner rest refl)
    by true e None inner k = absurd (cc)
    by false e r inner k = absurd (cc)

-- ---- values

truth_of : (o : Option Value) (v : Value) (x : Value) → o ≡ Some v → IsOfSort truth_sort v → x ≡ term_number (Some v) → x ≡ number 1 1 → o ≡ Some (truth true)
truth_of o (number w n) x is s e k = absurd s
truth_of o (truth true) x is s e k = is
truth_of o (truth false) x is s e k = absurd (let z : number 1 0 ≡ number 1 1 = sym e ∙ k in cc)

pub value_is : (d : Design) (defs : Defs) → WellFormed d → DesignLiteralsFit d → RowsFit d defs → (a : AssumeDecl) → HasType (scope_at d (last_level d) a.params false) truth_sort a.body
    → (ins : Inputs) (ts : List Term) → TermsFit d defs ins a ts
    → ShownAs (functions_by d defs) ins truth_sort (value (context d defs) (env_of (functions_by d defs) ins (bind_terms a.params ts)) [] a.body) (assumption_term d a ts)
value_is d defs w l rows a typed ins ts fit =
    let F = functions_by d defs in
    let s = scope_at d (last_level d) a.params false in
    value_shown (everywhere s) (context d defs) (term_context d) F ins (bind_terms a.params ts) [] []
    (record {
      fits = record { variables = (bound_are F ins a.params ts fit).1; fields_fit = λ no. absurd (cc) };
      headers = λ no. absurd (cc);
      packet_is = λ no. absurd (cc);
      calls = calls_shown d defs ins (names_differ d w) (typed_bodies d w l) rows;
    }) a.body truth_sort (typed_everywhere s truth_sort a.body typed)

pub says : (d : Design) (defs : Defs) → WellFormed d → DesignLiteralsFit d → RowsFit d defs → (a : AssumeDecl) → HasType (scope_at d (last_level d) a.params false) truth_sort a.body
    → (ins : Inputs) (ts : List Term) → TermsFit d defs ins a ts → SaysOf d defs ins a ts (assumption_term d a ts)
says d defs w l rows a typed ins ts fit env is =
    let F = functions_by d defs in
    let v = value_is d defs w l rows a typed ins ts fit in
    let b = (bound_are F ins a.params ts fit).0 in
    let same : env_of F ins (bind_terms a.params ts) ≡ env = cc in
    v.term ∙ ap term_number (sym v.is) ∙ ap (λ e. term_number (value (context d defs) e [] a.body)) same

pub true_if_met : (d : Design) (defs : Defs) → WellFormed d → DesignLiteralsFit d → RowsFit d defs → (a : AssumeDecl) → HasType (scope_at d (last_level d) a.params false) truth_sort a.body
    → IsMet d defs a → (ins : Inputs) (ts : List Term) → TermsFit d defs ins a ts → IsTrueUnder d defs ins (assumption_term d a ts)
true_if_met d defs w l rows a typed met ins ts fit =
    let F = functions_by d defs in
    let b = (bound_are F ins a.params ts fit).0 in
    says d defs w l rows a typed ins ts fit (env_of F ins (bind_terms a.params ts)) b
    ∙ ap term_number (met (numbers_of F ins ts) (env_of F ins (bind_terms a.params ts)) b)

pub value_true_if_met : (d : Design) (defs : Defs) → WellFormed d → DesignLiteralsFit d → RowsFit d defs → (a : AssumeDecl) → HasType (scope_at d (last_level d) a.params false) truth_sort a.body
    → IsMet d defs a → (ins : Inputs) (ns : List ℕ) → NumbersFit a ns → IsTrueUnder d defs ins (value_term d a ns)
value_true_if_met d defs w l rows a typed met ins ns fit =
    true_if_met d defs w l rows a typed met ins (number_terms (widths_of a.params) ns) (numbers_are (functions_by d defs) ins (widths_of a.params) ns fit).0

pub met_if_true : (d : Design) (defs : Defs) → WellFormed d → DesignLiteralsFit d → RowsFit d defs → (a : AssumeDecl) → HasType (scope_at d (last_level d) a.params false) truth_sort a.body
    → (ins : Inputs) → ((ns : List ℕ) → NumbersFit a ns → IsTrueUnder d defs ins (value_term d a ns)) → IsMet d defs a
met_if_true d defs w l rows a typed ins all ns env is =
    let F = functions_by d defs in
    let fit = bound_fit a.params ns env is in
    let ts = number_terms (widths_of a.params) ns in
    let are = numbers_are F ins (widths_of a.params) ns fit in
    let v = value_is d defs w l rows a typed ins ts are.0 in
    let b = (bound_are F ins a.params ts are.0).0 in
    let here : bind a.params ns ≡ Some (env_of F ins (bind_terms a.params ts)) = ap (bind a.params) (sym are.1) ∙ b in
    let same : env_of F ins (bind_terms a.params ts) ≡ env = cc in
    truth_of (value (context d defs) env [] a.body) v.value (term_value F ins (value_term d a ns))
    (ap (λ e. value (context d defs) e [] a.body) (sym same) ∙ v.is) v.sort v.term (all ns fit)
