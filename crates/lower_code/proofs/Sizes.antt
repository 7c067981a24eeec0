-- How much there is to lower: in an expression, and in the bodies of the functions that it sees.
use Rattle.std.proofs.Common.{◌≡◌, ℕ, zero, suc, ◌+◌, ◌<◌, ◌≤◌, List, [], ◌∷◌, map, take, length, get_or, slice_get, Option, Some, None, sym, subst, arith}
use Rattle.cocoon_num.specs.Tree.{Expr, name, field, lit, true_or_false, call, unary, binary, slice, pick, Exprs, no_exprs, expr, FunctionDecl}
use Rattle.cocoon_num.specs.Tree.{Stmt, Block, let_, set_field, if_, filter, havoc_var, havoc_field, assume, fork, send, no_stmts, stmt}
use Rattle.cocoon_syntax.specs.TreeOf.{block_of, exprs_of}

abbrev mutual
  pub nodes : Expr → ℕ
  nodes (name at x) = 1
  nodes (field at h f) = 1
  nodes (lit at w n) = 1
  nodes (true_or_false at b) = 1
  nodes (call at f es) = 1 + all_nodes es
  nodes (unary at op a) = 1 + nodes a
  nodes (binary at op a b) = 1 + (nodes a + nodes b)
  nodes (slice at a high low) = 1 + nodes a
  nodes (pick at c a b) = 1 + (nodes c + (nodes a + nodes b))

  pub all_nodes : Exprs → ℕ
  all_nodes no_exprs = 0
  all_nodes (expr e es) = nodes e + all_nodes es

-- that of a function's body
abbrev pub option_nodes : Option Expr → ℕ
option_nodes None = 0
option_nodes (Some e) = nodes e

abbrev pub body_nodes : FunctionDecl → ℕ
body_nodes d = option_nodes d.body

-- that of the bodies of some functions
abbrev pub weight : List FunctionDecl → ℕ
weight [] = 0
weight (d ∷ ds) = body_nodes d + weight ds

-- an expression is no larger than those among which it is
pub one_of : {A : Type 0} (f : A → Expr) (xs : List A) (i : ℕ) (x : A) → i < length xs → x ≡ get_or xs i x → nodes (f x) ≤ all_nodes (exprs_of (map f xs))
one_of f [] i x l e = absurd (omega arith)
one_of f (y ∷ ys) zero x l e = subst (λ z. nodes (f z) ≤ nodes (f y) + all_nodes (exprs_of (map f ys))) (sym e) (omega arith)
one_of f (y ∷ ys) (suc i) x l e = let r = one_of f ys i x (omega arith) e in omega arith

-- the body of a function and the bodies before it are no more than those before a later one
pub weight_with : (fs : List FunctionDecl) (n m : ℕ) (g : FunctionDecl) → slice_get fs n ≡ Some g → n < m → weight (take n fs) + body_nodes g ≤ weight (take m fs)
weight_with [] n m g h l = absurd (cc)
weight_with (f ∷ fs) zero zero g h l = absurd (omega arith)
weight_with (f ∷ fs) zero (suc m) g h l =
    let same : f ≡ g = cc in
    subst (λ z. 0 + body_nodes z ≤ body_nodes f + weight (take m fs)) same (omega arith)
weight_with (f ∷ fs) (suc n) zero g h l = absurd (omega arith)
weight_with (f ∷ fs) (suc n) (suc m) g h l = let r = weight_with fs n m g h (omega arith) in omega arith

-- ---- statements

abbrev mutual
  pub stmt_nodes : Stmt → ℕ
  stmt_nodes (let_ at x w e) = 1
  stmt_nodes (set_field at h f e) = 1
  stmt_nodes (if_ at e a b) = 1 + (block_nodes a + block_nodes b)
  stmt_nodes (filter at e) = 1
  stmt_nodes (havoc_var at x w) = 1
  stmt_nodes (havoc_field at h f) = 1
  stmt_nodes (assume at e) = 1
  stmt_nodes (fork at x w e b) = 1
  stmt_nodes (send at r es) = 1

  pub block_nodes : Block → ℕ
  block_nodes no_stmts = 0
  block_nodes (stmt s b) = stmt_nodes s + block_nodes b

pub one_stmt : {A : Type 0} (f : A → Stmt) (xs : List A) (i : ℕ) (x : A) → i < length xs → x ≡ get_or xs i x → stmt_nodes (f x) ≤ block_nodes (block_of (map f xs))
one_stmt f [] i x l e = absurd (omega arith)
one_stmt f (y ∷ ys) zero x l e = subst (λ z. stmt_nodes (f z) ≤ stmt_nodes (f y) + block_nodes (block_of (map f ys))) (sym e) (omega arith)
one_stmt f (y ∷ ys) (suc i) x l e = let r = one_stmt f ys i x (omega arith) e in omega arith
