-- Where expressions of roles and assumptions stand: all functions and headers are seen.
use Rattle.std.proofs.Common.{◌≡◌, ℕ, ◌≤◌, List, reverse, take, false, Option, Some, None, sym, ap, ◌∙◌, arith}
use Rattle.std.specs.Prelude.{is_none}
use Rattle.std.proofs.lemmas.List.{take_all}
use Rattle.cocoon_num.specs.Tree.{Expr, Exprs, Design}
use Rattle.cocoon_types.specs.Design.{functions}
use Rattle.cocoon_types.specs.Typing as typing
use Rattle.bv_terms.specs.declared.node.Node.{Node}
use Rattle.obligation_laws.specs.Shown.{FitsScope}
use Rattle.obligation_laws.specs.TermOf.{call_in, term_context, term_of, terms_of}
use Rattle.obligation_laws.proofs.Typings.{all_typed_everywhere, everywhere, typed_everywhere}
use Rattle.expr_terms.specs.Scopes.{AreTyped, CanMake, CanMakeAll, IsTyped, IsWhole, Sees, context_in, design_in, functions_in, term_in, terms_in}
use Rattle.expr_terms.specs.Sizes.{IsCount, functions_before, most_nodes}
use Rattle.expr_terms.specs.Variables.{AreThere, VariablesThere, terms_at, variables_of}
use Rattle.expr_terms.specs.declared.functions.Scope.{Scope}
use Rattle.expr_terms.specs.declared.variables.Variable.{Variable}
use Rattle.expr_terms.proofs.Counts.{all_before}

pub counted : (n : ℕ) (r : Option ℕ) → IsCount n r → is_none r ≡ false → n ≤ most_nodes
counted n None h e = absurd (cc)
counted n (Some m) h e = h.1

seen_functions : (d : Design) (s : Scope) → IsWhole d s → functions_in s ≡ functions d
seen_functions d s w = ap (λ (x : Design). take s.before (functions x)) w.design ∙ take_all s.before (functions d) (let e = w.functions in omega (arith, e))

whole_sees : (d : Design) (s : Scope) (n : List Node) (vars : List Variable) (fields : List ℕ) → IsWhole d s → (scope : typing.Scope) → scope.design ≡ d → FitsScope scope (variables_of n vars) (terms_at n fields)
    → VariablesThere n vars → AreThere n fields → Sees s n vars fields
whole_sees d s n vars fields w scope is fits vs fs = record {
  scope = everywhere scope;
  design = is ∙ sym w.design;
  functions = ap functions is ∙ sym (seen_functions d s w);
  headers = λ p. w.headers ∙ ap (λ (x : Design). x.headers) (sym is);
  fits = record { variables = fits.variables; fields_fit = fits.fields_fit };
  variables = vs;
  fields_there = fs;
}

pub whole_can : (d : Design) (s : Scope) (n : List Node) (vars : List Variable) (fields : List ℕ) (e : Expr) → IsWhole d s → IsTyped d n vars fields e → CanMake s n vars fields e
unfolding whole_sees
whole_can d s n vars fields e w t = record {
  sees = whole_sees d s n vars fields w t.scope t.design t.fits t.variables t.fields_there;
  sort = t.sort;
  typed = typed_everywhere t.scope t.sort e t.typed;
}

pub whole_can_all : (d : Design) (s : Scope) (n : List Node) (vars : List Variable) (fields : List ℕ) (es : Exprs) → IsWhole d s → AreTyped d n vars fields es → CanMakeAll s n vars fields es
unfolding whole_sees
whole_can_all d s n vars fields es w t = record {
  sees = whole_sees d s n vars fields w t.scope t.design t.fits t.variables t.fields_there;
  widths = t.widths;
  typed = all_typed_everywhere t.scope t.widths es t.typed;
}

context_is : (d : Design) (s : Scope) → IsWhole d s → context_in s ≡ term_context d
context_is d s w =
    let fs : functions_before (design_in s) s.before ≡ reverse (functions d) = (λ j. functions_before (w.design j) s.before) ∙ all_before d s.before w.functions in
    λ j. record { headers = w.headers j; call = call_in (fs j) }

pub whole_term : (d : Design) (s : Scope) (n : List Node) (vars : List Variable) (fields : List ℕ) (e : Expr) → IsWhole d s → term_in s n vars fields e ≡ term_of (term_context d) (variables_of n vars) (terms_at n fields) e
whole_term d s n vars fields e w = ap (λ c. term_of c (variables_of n vars) (terms_at n fields) e) (context_is d s w)

pub whole_terms : (d : Design) (s : Scope) (n : List Node) (vars : List Variable) (fields : List ℕ) (es : Exprs) → IsWhole d s → terms_in s n vars fields es ≡ terms_of (term_context d) (variables_of n vars) (terms_at n fields) es
whole_terms d s n vars fields es w = ap (λ c. terms_of c (variables_of n vars) (terms_at n fields) es) (context_is d s w)
