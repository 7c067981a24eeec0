-- Cited by the clauses of `expr_term` and of `CallSizes`: how many nodes there are to make a term of, where each call has those
-- of its arguments and those of the body that it stands for. In a body a parameter is one node, as a variable is.
use Rattle.std.specs.Prelude.{◌≡◌, ℕ, ◌+◌, ◌^◌, ◌<◌, ◌≤◌, List, [], ◌∷◌, length, reverse, slice_get, take, if◌then◌else◌, Option, Some, None}
use Rattle.cocoon_num.specs.Names.{same_name}
use Rattle.cocoon_num.specs.Tree.{Expr, name, field, lit, true_or_false, call, unary, binary, slice, pick, Exprs, no_exprs, expr, FunctionDecl, Design}
use Rattle.cocoon_types.specs.Design.{functions}

abbrev mutual
  -- the nodes of an expression, where those of the body of a called function are given
  pub nodes : (List ℕ → ℕ) → Expr → ℕ
  nodes c (name at x) = 1
  nodes c (field at h f) = 1
  nodes c (lit at w n) = 1
  nodes c (true_or_false at b) = 1
  nodes c (call at f es) = 1 + (c f.text + all_nodes c es)
  nodes c (unary at op a) = 1 + nodes c a
  nodes c (binary at op a b) = 1 + (nodes c a + nodes c b)
  nodes c (slice at a high low) = 1 + nodes c a
  nodes c (pick at x a b) = 1 + (nodes c x + (nodes c a + nodes c b))

  pub all_nodes : (List ℕ → ℕ) → Exprs → ℕ
  all_nodes c no_exprs = 0
  all_nodes c (expr e es) = nodes c e + all_nodes c es

-- those of a function, where those of the functions before it are given: none, if it is defined at run time
abbrev pub body_nodes : (List ℕ → ℕ) → Option Expr → ℕ
body_nodes c None = 0
body_nodes c (Some e) = nodes c e

-- those of the first function of that name, which sees those after it
abbrev pub call_nodes : List FunctionDecl → List ℕ → ℕ
call_nodes [] f = 0
call_nodes (d ∷ earlier) f = if same_name f d.name.text then body_nodes (call_nodes earlier) d.body else call_nodes earlier f

-- the first functions of a design, so many, the last first
abbrev pub functions_before : Design → ℕ → List FunctionDecl
functions_before d n = reverse (take n (functions d))

-- the nodes of an expression of a design
abbrev pub expr_nodes : Design → Expr → ℕ
expr_nodes d e = nodes (call_nodes (reverse (functions d))) e

-- of some expressions
abbrev pub exprs_nodes : Design → Exprs → ℕ
exprs_nodes d es = all_nodes (call_nodes (reverse (functions d))) es

-- more nodes are out of memory
abbrev pub most_nodes : ℕ
most_nodes = 2 ^ 25

-- a count as it is kept: none, if it is too large
abbrev pub IsCount : ℕ → Option ℕ → Type 0
IsCount n None = most_nodes < n
IsCount n (Some m) = (m ≡ n) × (n ≤ most_nodes)

-- the counts of the bodies of functions, by their numbers
pub record AreSizes (d : Design) (sizes : List (Option ℕ)) : Type 0 where
  pub count : length sizes ≡ length (functions d)
  pub each_ : (k : ℕ) (g : FunctionDecl) (size : Option ℕ) → slice_get (functions d) k ≡ Some g → slice_get sizes k ≡ Some size
      → IsCount (body_nodes (call_nodes (functions_before d k)) g.body) size
