-- Cited by the clauses of the laws of this crate: the term that an expression stands for, by cases on its tree.
-- Names in scope stand for terms, and a function with a body stands for its body over the arguments; its body sees the
-- functions that are declared before it. It follows the section "Expressions as terms" of docs/CLAUSES.md; every form of the
-- section "Values" of docs/LANGUAGE.md has its case.
use Rattle.std.specs.Prelude.{ℕ, Bool, List, [], ◌∷◌, drop, length, reverse, if◌then◌else◌, Some, None}
use Rattle.cocoon_num.specs.Names.{same_name}
use Rattle.cocoon_num.specs.Tree.{Param, Expr, name, field, lit, true_or_false, call, unary, binary, slice, pick, Exprs, no_exprs, expr, ResultKind, of_width, of_truth, FunctionDecl, HeaderDecl, Design}
use Rattle.cocoon_num.specs.Values.{BinaryOp, add, sub, bits_and, bits_or, bits_xor, concat, equal, unequal, less, less_equal, greater, greater_equal, and_, or_, implies}
use Rattle.cocoon_types.specs.Design.{functions}
use Rattle.bv_terms.specs.declared.node.TermOp.TheVariants as ops
use Rattle.bv_terms.specs.TermTrees as term
use Rattle.bv_terms.specs.TermTrees.{Term, Args, no_args, arg, constant}

-- ---- names in scope

-- variables with their terms, the latest first
abbrev pub TermEnv : Type 0
TermEnv = List (List ℕ × Term)

-- what a name stands for that is not in scope
abbrev pub no_term : Term
no_term = constant 1 0

-- the term of a variable: a later one hides an earlier one of the same name
abbrev pub variable_term : TermEnv → List ℕ → Term
variable_term [] x = no_term
variable_term (v ∷ vars) x = if same_name x v.0 then v.1 else variable_term vars x

-- the parameters with these terms
abbrev pub bind_terms : List Param → List Term → TermEnv
bind_terms (p ∷ ps) (t ∷ ts) = (p.name.text, t) ∷ bind_terms ps ts
bind_terms _ _ = []

-- the field f among the fields of one header
abbrev pub term_in : List Param → List Term → List ℕ → Term
term_in (p ∷ ps) (t ∷ ts) f = if same_name f p.name.text then t else term_in ps ts f
term_in _ _ f = no_term

-- the field f of the header h, where these are the terms of all fields, header by header
abbrev pub field_term : List HeaderDecl → List Term → List ℕ → List ℕ → Term
field_term [] ts h f = no_term
field_term (d ∷ ds) ts h f =
    if same_name h d.name.text then term_in d.fields ts f else field_term ds (drop (length d.fields) ts) h f

-- ---- operators

-- truth is a number of width 1
abbrev pub truth_term : Bool → Term
truth_term b = constant 1 (if b then 1 else 0)

abbrev pub binary_term : BinaryOp → Term → Term → Term
binary_term add a b = term.binary ops.Add a b
binary_term sub a b = term.binary ops.Sub a b
binary_term bits_and a b = term.binary ops.And a b
binary_term bits_or a b = term.binary ops.Or a b
binary_term bits_xor a b = term.binary ops.Xor a b
binary_term concat a b = term.binary ops.Concat a b
binary_term equal a b = term.binary ops.Equal a b
binary_term unequal a b = term.not_ (term.binary ops.Equal a b)
binary_term less a b = term.binary ops.Less a b
binary_term less_equal a b = term.not_ (term.binary ops.Less b a)
binary_term greater a b = term.binary ops.Less b a
binary_term greater_equal a b = term.not_ (term.binary ops.Less a b)
binary_term and_ a b = term.binary ops.And a b
binary_term or_ a b = term.binary ops.Or a b
binary_term implies a b = term.binary ops.Or (term.not_ a) b

-- ---- expressions

-- what an expression stands in, beside variables and fields: the headers, and what calls stand for at terms
pub record TermContext : Type 0 where
  pub headers : List HeaderDecl
  pub call : List ℕ → List Term → Term

abbrev mutual
  pub term_of : TermContext → TermEnv → List Term → Expr → Term
  term_of c vars fields (name at x) = variable_term vars x
  term_of c vars fields (field at h f) = field_term c.headers fields h.text f.text
  term_of c vars fields (lit at w n) = constant w n
  term_of c vars fields (true_or_false at b) = truth_term b
  term_of c vars fields (call at f es) = c.call f.text (terms_of c vars fields es)
  term_of c vars fields (unary at op a) = term.not_ (term_of c vars fields a)
  term_of c vars fields (binary at op a b) = binary_term op (term_of c vars fields a) (term_of c vars fields b)
  term_of c vars fields (slice at a high low) = term.slice (term_of c vars fields a) high low
  term_of c vars fields (pick at x a b) =
      term.pick (term_of c vars fields x) (term_of c vars fields a) (term_of c vars fields b)

  -- of some expressions, from left to right
  pub terms_of : TermContext → TermEnv → List Term → Exprs → List Term
  terms_of c vars fields no_exprs = []
  terms_of c vars fields (expr e es) = term_of c vars fields e ∷ terms_of c vars fields es

-- ---- functions

abbrev pub args_of : List Term → Args
args_of [] = no_args
args_of (t ∷ ts) = arg t (args_of ts)

-- the width of a function's result
abbrev pub result_width : ResultKind → ℕ
result_width (of_width w) = w
result_width of_truth = 1

-- A call of the first of these functions of that name, which sees those after it: of one that is defined at run time the
-- function of its number, in the order of declaration. A body sees no packet.
abbrev pub call_in : List FunctionDecl → List ℕ → List Term → Term
call_in [] f ts = no_term
call_in (d ∷ earlier) f ts =
    if same_name f d.name.text then
    elim d.body [
      | None ↦ term.apply (length earlier) (args_of ts) (result_width d.result)
      | Some e ↦ term_of (record { headers = []; call = call_in earlier }) (bind_terms d.params ts) [] e
    ]
    else call_in earlier f ts

-- that of a design's expressions: all its functions are seen
abbrev pub term_context : Design → TermContext
term_context design = record { headers = design.headers; call = call_in (reverse (functions design)) }
