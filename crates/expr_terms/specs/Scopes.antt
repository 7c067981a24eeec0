-- Cited by the clauses of all that makes terms of expressions: in what expressions stand, and when a term can be made.
use Rattle.std.specs.Prelude.{◌≡◌, ℕ, ◌≤◌, true, List, length, map, take, slice_get, Some}
use Rattle.std.specs.List.{AllZip}
use Rattle.cocoon_num.specs.Sorts.{Sort}
use Rattle.cocoon_num.specs.Tree.{Expr, Exprs, Param, FunctionDecl, HeaderDecl, Design}
use Rattle.cocoon_syntax.specs.TreeOf.{design_of, header_of}
use Rattle.cocoon_types.specs.Design.{functions, widths_of}
use Rattle.cocoon_types.specs.Rules.{WellFormed}
use Rattle.cocoon_types.specs.Typing as typing
use Rattle.bv_terms.specs.declared.node.Node.{Node}
use Rattle.bv_terms.specs.TermTrees.{Term}
use Rattle.sound_types.specs.Literals.{DesignLiteralsFit}
use Rattle.sound_types.specs.WellTyped.{HasType, HaveWidths, scope_in}
use Rattle.obligation_laws.specs.Shown.{AreVariables, FitsScope, HasWidth}
use Rattle.obligation_laws.specs.TermOf.{TermContext, call_in, term_of, terms_of}
use Rattle.obligation_laws.specs.TypedExprs.{TypedAll, TypedAs}
use Rattle.expr_terms.specs.Sizes.{functions_before}
use Rattle.expr_terms.specs.Variables.{AreThere, VariablesThere, terms_at, variables_of}
use Rattle.expr_terms.specs.declared.functions.Scope.{Scope}
use Rattle.expr_terms.specs.declared.variables.Variable.{Variable}

-- ---- expressions of a design

-- An expression of a design has a type where these variables and fields are in scope, and all these are terms of the arena.
pub record IsTyped (d : Design) (nodes : List Node) (vars : List Variable) (fields : List ℕ) (e : Expr) : Type 0 where
  pub scope : typing.Scope
  pub sort : Sort
  pub design : scope.design ≡ d
  pub typed : HasType scope sort e
  pub fits : FitsScope scope (variables_of nodes vars) (terms_at nodes fields)
  pub variables : VariablesThere nodes vars
  pub fields_there : AreThere nodes fields

-- expressions are numbers, likewise
pub record AreTyped (d : Design) (nodes : List Node) (vars : List Variable) (fields : List ℕ) (es : Exprs) : Type 0 where
  pub scope : typing.Scope
  pub widths : List ℕ
  pub design : scope.design ≡ d
  pub typed : HaveWidths scope widths es
  pub fits : FitsScope scope (variables_of nodes vars) (terms_at nodes fields)
  pub variables : VariablesThere nodes vars
  pub fields_there : AreThere nodes fields

-- ---- in what they stand

abbrev pub design_in : Scope → Design
design_in s = design_of s.checked.now

abbrev pub headers_in : Scope → List HeaderDecl
headers_in s = map header_of s.headers.now

-- the functions that are seen
abbrev pub functions_in : Scope → List FunctionDecl
functions_in s = take s.before (functions (design_in s))

abbrev pub context_in : Scope → TermContext
context_in s = record { headers = headers_in s; call = call_in (functions_before (design_in s) s.before) }

-- the term that an expression stands for
abbrev pub term_in : Scope → List Node → List Variable → List ℕ → Expr → Term
term_in s nodes vars fields e = term_of (context_in s) (variables_of nodes vars) (terms_at nodes fields) e

abbrev pub terms_in : Scope → List Node → List Variable → List ℕ → Exprs → List Term
terms_in s nodes vars fields es = terms_of (context_in s) (variables_of nodes vars) (terms_at nodes fields) es

-- the design keeps the rules, and has as many functions as are seen
pub record IsSeen (s : Scope) : Type 0 where
  pub rules : WellFormed (design_in s)
  pub literals : DesignLiteralsFit (design_in s)
  pub before : s.before ≤ length (functions (design_in s))

-- the variables and fields are those of a scope of the rules
pub record Sees (s : Scope) (nodes : List Node) (vars : List Variable) (fields : List ℕ) : Type 0 where
  pub scope : typing.Scope
  pub design : scope.design ≡ design_in s
  pub functions : scope.before ≡ functions_in s
  pub headers : scope.packet ≡ true → headers_in s ≡ scope.design.headers
  pub fits : FitsScope scope (variables_of nodes vars) (terms_at nodes fields)
  pub variables : VariablesThere nodes vars
  pub fields_there : AreThere nodes fields

-- the expression has a type there
pub record CanMake (s : Scope) (nodes : List Node) (vars : List Variable) (fields : List ℕ) (e : Expr) : Type 0 where
  pub sees : Sees s nodes vars fields
  pub sort : Sort
  pub typed : TypedAs sees.scope sort e

-- the expressions are numbers there
pub record CanMakeAll (s : Scope) (nodes : List Node) (vars : List Variable) (fields : List ℕ) (es : Exprs) : Type 0 where
  pub sees : Sees s nodes vars fields
  pub widths : List ℕ
  pub typed : TypedAll sees.scope widths es

-- these are terms of the widths of the parameters, as many
pub record Takes (nodes : List Node) (params : List Param) (args : List ℕ) : Type 0 where
  pub there : AreThere nodes args
  pub widths : AllZip HasWidth (widths_of params) (terms_at nodes args)

-- a function of this name is seen, and takes these terms
pub record CanCall (s : Scope) (nodes : List Node) (f : List ℕ) (args : List ℕ) : Type 0 where
  pub function : FunctionDecl
  pub number : ℕ
  pub is : slice_get (functions_in s) number ≡ Some function
  pub name : f ≡ function.name.text
  pub takes : Takes nodes function.params args

-- the body of the function of this number is typed, where these are its parameters
pub record CanMakeBody (s : Scope) (nodes : List Node) (number : ℕ) (vars : List Variable) (e : Expr) : Type 0 where
  pub params : List Param
  pub sort : Sort
  pub typed : TypedAs (scope_in (design_in s) number params) sort e
  pub fits : AreVariables params (variables_of nodes vars)
  pub variables : VariablesThere nodes vars

-- all headers and functions of the design are seen
pub record IsWhole (d : Design) (s : Scope) : Type 0 where
  pub seen : IsSeen s
  pub design : design_in s ≡ d
  pub headers : headers_in s ≡ d.headers
  pub functions : s.before ≡ length (functions d)
