-- Calls of functions, and their bodies over arguments.
use Rattle.std.proofs.Common.{◌≡◌, ℕ, List, [], take, Some, sym, ap, subst, arith}
use Rattle.std.specs.Prelude.{slice_get}
use Rattle.cocoon_num.specs.Tree.{Expr, FunctionDecl, Design}
use Rattle.cocoon_types.specs.Design.{functions}
use Rattle.cocoon_types.specs.Typing.{result_sort}
use Rattle.bv_terms.specs.declared.node.Node.{Node}
use Rattle.bv_terms.specs.TermTrees.{Term}
use Rattle.sound_types.specs.WellTyped.{scope_in}
use Rattle.obligation_laws.specs.Shown.{AreVariables}
use Rattle.obligation_laws.specs.TermOf.{bind_terms}
use Rattle.obligation_laws.proofs.ExprsTogether.{body_is_typed}
use Rattle.obligation_laws.proofs.ExprWidths.{params_are}
use Rattle.expr_terms.specs.Finds.{called}
use Rattle.expr_terms.specs.Scopes.{CanMake, CanMakeBody, IsSeen, Takes, design_in}
use Rattle.expr_terms.specs.Variables.{VariablesThere, terms_at, variables_of}
use Rattle.expr_terms.specs.declared.functions.Scope.{Scope}
use Rattle.expr_terms.specs.declared.variables.Variable.{Variable}

-- the body of a function can be made over these arguments
pub body_can : (s : Scope) (n : List Node) (k : ℕ) (vars : List Variable) (ids : List ℕ) (g : FunctionDecl) (e : Expr) → IsSeen s → slice_get (functions (design_in s)) k ≡ Some g → g.body ≡ Some e
    → Takes n g.params ids → variables_of n vars ≡ bind_terms g.params (terms_at n ids) → VariablesThere n vars → CanMakeBody s n k vars e
body_can s n k vars ids g e seen at is takes bound there = record {
  params = g.params;
  sort = result_sort g.result;
  typed = body_is_typed (design_in s) seen.rules seen.literals k g e at is;
  fits = subst (AreVariables g.params) (sym bound) (params_are g.params (terms_at n ids) takes.widths);
  variables = there;
}

-- where the body stands
pub body_sees : (s t : Scope) (n : List Node) (k : ℕ) (vars : List Variable) (e : Expr) → CanMakeBody s n k vars e → design_in t ≡ design_in s → t.before ≡ k → CanMake t n vars [] e
body_sees s t n k vars e can same before = record {
  sees = record {
    scope = scope_in (design_in s) k can.params;
    design = sym same;
    functions = λ j. take (sym before j) (functions (sym same j));
    headers = λ no. absurd (cc);
    fits = record { variables = can.fits; fields_fit = λ no. absurd (cc) };
    variables = can.variables;
    fields_there = λ j d l. absurd (omega (arith, l));
  };
  sort = can.sort;
  typed = can.typed;
}

-- a call of a function with a body
pub called_body : (d : Design) (k : ℕ) (g : FunctionDecl) (ts : List Term) (e : Expr) → g.body ≡ Some e → called d k g ts (Some e) ≡ called d k g ts g.body
called_body d k g ts e is = ap (called d k g ts) (sym is)
