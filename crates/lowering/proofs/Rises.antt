-- The counts of meta fields only rise.
use Rattle.std.specs.Prelude.{ℕ, suc, ◌≤◌, Bool, true, false, cond, List, [], ◌∷◌, Option, Some, None}
use Rattle.std.proofs.Common.{arith}
use Rattle.cocoon_num.specs.Tree.{Param, Expr, name, Exprs, FunctionDecl, HeaderDecl, Stmt, Block, field, lit, true_or_false, call, unary, binary, slice, pick, no_exprs, expr, let_, set_field, if_, filter, havoc_var, havoc_field, assume, fork, send, no_stmts, stmt}
use Rattle.cocoon_num.specs.Names.{same_name}
use Rattle.p4_ir.specs.P4Tree.{P4Expr}
use Rattle.lowering.specs.Lower.{Counts, Variable, Lowered, Callees, callees, lower_expr, lower_exprs, lower_call, lower_group, by_group, params_before_last, by_table, closed, past, variables_from, after_args}
use Rattle.lowering.specs.LowerBlock.{forked, in_block, fork_args, fork_function, lower_stmt, lower_block}
use Rattle.lowering.specs.Agrees.{CallsRise}

mutual
  pub expr_rises : (c : Callees) → CallsRise c → (e : Expr) (vars : List Variable) (n : Counts) → n.field ≤ (lower_expr c vars n e).next.field
  expr_rises c g (name p x) vars n = omega arith
  expr_rises c g (field p h f) vars n = omega arith
  expr_rises c g (lit p w x) vars n = omega arith
  expr_rises c g (true_or_false p b) vars n = omega arith
  expr_rises c g (call p f es) vars n =
      omega (arith, exprs_rise c g es vars n, g.0 f.text (lower_exprs c vars n es).exprs (lower_exprs c vars n es).next)
  expr_rises c g (unary p op a) vars n = expr_rises c g a vars n
  expr_rises c g (binary p op a b) vars n = omega (arith, expr_rises c g a vars n, expr_rises c g b vars (lower_expr c vars n a).next)
  expr_rises c g (slice p a hi lo) vars n = expr_rises c g a vars n
  expr_rises c g (pick p e a b) vars n =
      omega (arith, expr_rises c g e vars n, expr_rises c g a vars (lower_expr c vars n e).next, expr_rises c g b vars (lower_expr c vars (lower_expr c vars n e).next a).next)

  pub exprs_rise : (c : Callees) → CallsRise c → (es : Exprs) (vars : List Variable) (n : Counts) → n.field ≤ (lower_exprs c vars n es).next.field
  exprs_rise c g no_exprs vars n = omega arith
  exprs_rise c g (expr e es) vars n = omega (arith, expr_rises c g e vars n, exprs_rise c g es vars (lower_expr c vars n e).next)

pub past_rises : (i : ℕ) (ps : List Param) → i ≤ past i ps
past_rises i [] = omega arith
past_rises i (p ∷ ps) = omega (arith, past_rises (suc i) ps)

either_rises : (b : Bool) (n : ℕ) (X Y : Lowered) → n ≤ X.next.field → n ≤ Y.next.field → n ≤ (cond b X Y).next.field
either_rises true n X Y h g = h
either_rises false n X Y h g = g

abbrev lowered_by : List HeaderDecl → List FunctionDecl → FunctionDecl → List P4Expr → Counts → Option Expr → Lowered
lowered_by headers earlier d es n body = elim body [
  | None ↦ by_table d es n
  | Some e ↦ closed d es n (lower_expr (record { headers = headers; call = lower_call headers earlier; group = lower_group earlier; port = [] }) (variables_from n.field d.params) (after_args d n) e)
]

body_rises : (headers : List HeaderDecl) (earlier : List FunctionDecl) → CallsRise (callees headers earlier []) → (d : FunctionDecl) (es : List P4Expr) (n : Counts) (body : Option Expr) → n.field ≤ (lowered_by headers earlier d es n body).next.field
body_rises headers earlier g d es n None = omega (arith, past_rises n.field d.params)
body_rises headers earlier g d es n (Some e) = omega (arith, past_rises n.field d.params, expr_rises (callees headers earlier []) g e (variables_from n.field d.params) (after_args d n))

group_rises : (fs : List FunctionDecl) (f : List ℕ) (es : List P4Expr) (n : Counts) → n.field ≤ (lower_group fs f es n).next.field
group_rises [] f es n = omega arith
group_rises (d ∷ earlier) f es n =
    either_rises (same_name f d.name.text) n.field (by_group d es n) (lower_group earlier f es n) (omega (arith, past_rises n.field (params_before_last d.params))) (group_rises earlier f es n)

call_rises : (headers : List HeaderDecl) (fs : List FunctionDecl) (f : List ℕ) (es : List P4Expr) (n : Counts) → n.field ≤ (lower_call headers fs f es n).next.field
call_rises headers [] f es n = omega arith
call_rises headers (d ∷ earlier) f es n =
    either_rises (same_name f d.name.text) n.field (lowered_by headers earlier d es n d.body) (lower_call headers earlier f es n)
    (body_rises headers earlier ((λ f es n. call_rises headers earlier f es n), (λ f es n. group_rises earlier f es n)) d es n d.body) (call_rises headers earlier f es n)

pub calls_rise : (headers : List HeaderDecl) (fs : List FunctionDecl) (port : List ℕ) → CallsRise (callees headers fs port)
calls_rise headers fs port = (call_rises headers fs, group_rises fs)

fork_rises : (saves : Bool) (x : List ℕ) (w : ℕ) (body : Block) (vars : List Variable) (r : Lowered) (k : ℕ) → k ≤ r.next.field → k ≤ (forked x w body saves vars r).next.field
fork_rises true x w body vars r k h = omega arith
fork_rises false x w body vars r k h = h

mutual
  pub stmt_rises : (c : Callees) → CallsRise c → (s : Stmt) (vars : List Variable) (n : Counts) → n.field ≤ (lower_stmt c vars n s).next.field
  stmt_rises c g (let_ p x w e) vars n = omega (arith, expr_rises c g e vars n)
  stmt_rises c g (set_field p h f e) vars n = expr_rises c g e vars n
  stmt_rises c g (if_ p e first second) vars n =
      omega (arith, expr_rises c g e vars n, block_rises c g first vars (lower_expr c vars n e).next, block_rises c g second vars (lower_block c vars (lower_expr c vars n e).next first).next)
  stmt_rises c g (filter p e) vars n = expr_rises c g e vars n
  stmt_rises c g (havoc_var p x w) vars n = omega arith
  stmt_rises c g (havoc_field p h f) vars n = omega arith
  stmt_rises c g (assume p e) vars n = omega arith
  stmt_rises c g (fork p x w e body) vars n =
      fork_rises (in_block c.port body) x.text w body vars _ n.field
      (omega (arith, exprs_rise c g (fork_args e) vars n, g.1 (fork_function e) (lower_exprs c vars n (fork_args e)).exprs (lower_exprs c vars n (fork_args e)).next))
  stmt_rises c g (send p r es) vars n = exprs_rise c g es vars n

  pub block_rises : (c : Callees) → CallsRise c → (b : Block) (vars : List Variable) (n : Counts) → n.field ≤ (lower_block c vars n b).next.field
  block_rises c g no_stmts vars n = omega arith
  block_rises c g (stmt s rest) vars n = omega (arith, stmt_rises c g s vars n, block_rises c g rest (lower_stmt c vars n s).vars (lower_stmt c vars n s).next)
