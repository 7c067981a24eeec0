-- The body of an assumption over terms of its parameters.
use Rattle.std.proofs.Common.{◌≡◌, ℕ, List, [], false, refl, sym, subst, arith}
use Rattle.std.specs.List.{AllZip}
use Rattle.cocoon_num.specs.Sorts.{truth_sort}
use Rattle.cocoon_num.specs.Tree.{AssumeDecl, Design}
use Rattle.cocoon_types.specs.Design.{last_level, widths_of}
use Rattle.bv_terms.specs.declared.node.Node.{Node}
use Rattle.bv_terms.specs.TermTrees.{Term}
use Rattle.sound_types.specs.WellTyped.{HasType, scope_at}
use Rattle.obligation_laws.specs.Shown.{FitsScope, HasWidth, TermsHaveWidths}
use Rattle.obligation_laws.specs.TermOf.{bind_terms}
use Rattle.obligation_laws.proofs.ExprWidths.{params_are}
use Rattle.expr_terms.specs.Scopes.{IsTyped, Takes}
use Rattle.expr_terms.specs.Variables.{VariablesThere, terms_at, variables_of}
use Rattle.expr_terms.specs.declared.variables.Variable.{Variable}
use Rattle.fun_instances.specs.AssumptionTerms.{assumption_term}

bound_fit : (d : Design) (a : AssumeDecl) (ts : List Term) → AllZip HasWidth (widths_of a.params) ts → FitsScope (scope_at d (last_level d) a.params false) (bind_terms a.params ts) []
bound_fit d a ts h = record { variables = params_are a.params ts h; fields_fit = λ no. absurd (cc) }

pub body_typed : (d : Design) (a : AssumeDecl) → HasType (scope_at d (last_level d) a.params false) truth_sort a.body → (n : List Node) (args : List ℕ) → Takes n a.params args
    → (vars : List Variable) → variables_of n vars ≡ bind_terms a.params (terms_at n args) → VariablesThere n vars → IsTyped d n vars [] a.body
body_typed d a typed n args takes vars is there =
    let s = scope_at d (last_level d) a.params false in
    record {
      scope = s;
      sort = truth_sort;
      design = refl;
      typed = typed;
      fits = subst (λ vs. FitsScope s vs []) (sym is) (bound_fit d a (terms_at n args) takes.widths);
      variables = there;
      fields_there = λ k e l. absurd (omega (arith, l));
    }

pub truth_wide : (d : Design) → TermsHaveWidths d → (a : AssumeDecl) → HasType (scope_at d (last_level d) a.params false) truth_sort a.body → (ts : List Term) → AllZip HasWidth (widths_of a.params) ts
    → HasWidth 1 (assumption_term d a ts)
truth_wide d wide a typed ts h = wide (scope_at d (last_level d) a.params false) (bind_terms a.params ts) [] refl (bound_fit d a ts h) truth_sort a.body typed
