-- Cited by `body_ends` and the laws after it, and by the clause of `lower_block`. Lowering of statements and blocks.
-- A fork's block is kept aside, with what is in context there, for the egress control.
use Rattle.std.specs.Prelude.{ℕ, suc, Bool, true, false, ◌||◌, List, [], ◌∷◌, ◌++◌}
use Rattle.cocoon_num.specs.Values.{not_}
use Rattle.cocoon_num.specs.Names.{same_name}
use Rattle.cocoon_num.specs.Tree.{Expr, name, Exprs, Stmt, Block, field, lit, true_or_false, call, unary, binary, slice, pick, no_exprs, expr, let_, set_field, if_, filter, havoc_var, havoc_field, assume, fork, send, no_stmts, stmt}
use Rattle.p4_ir.specs.P4Tree.{P4Expr, p_lit, p_port, p_truth, p_meta, p_unary, P4Stmt, group, verdict, egress_port, set_meta, set_header, p_if, p_if_else, p_return, p_done, p_then}
use Rattle.lowering.specs.Lower.{Counts, Made, a_field, var_name, Variable, Lowered, LoweredAll, Callees, then_called, lower_expr, lower_exprs, header_place, field_place}
use Rattle.p4_ir.specs.Program.{block_of}

-- the block of a fork with this number, and what the names in it are read as
pub record Site : Type 0 where
  pub number : ℕ
  pub vars : List Variable
  pub x : List ℕ
  pub width : ℕ
  pub body : Block

pub record LoweredBlock : Type 0 where
  pub code : List P4Stmt
  pub made : List Made
  pub vars : List Variable
  pub next : Counts
  pub sites : List Site

abbrev pub let_code : List ℕ → ℕ → List Variable → Lowered → LoweredBlock
let_code x w vars r = record {
  code = r.code ++ (set_meta r.next.field r.expr ∷ []);
  made = r.made ++ (a_field (var_name r.next.var) r.next.field w ∷ []);
  vars = record { name = x; expr = p_meta r.next.field } ∷ vars;
  next = record { app = r.next.app; var = suc r.next.var; field = suc r.next.field; site = r.next.site };
  sites = [];
}

abbrev pub effect : (P4Expr → List P4Stmt) → List Variable → Lowered → LoweredBlock
effect f vars r = record { code = r.code ++ f r.expr; made = r.made; vars = vars; next = r.next; sites = [] }

abbrev pub if_stmt : P4Expr → List P4Stmt → List P4Stmt → P4Stmt
if_stmt e first [] = p_if e (block_of first)
if_stmt e first (x ∷ second) = p_if_else e (block_of first) (block_of (x ∷ second))

abbrev pub if_code : List Variable → Lowered → LoweredBlock → LoweredBlock → LoweredBlock
if_code vars r a b = record {
  code = r.code ++ (if_stmt r.expr a.code b.code ∷ []);
  made = r.made ++ (a.made ++ b.made);
  vars = vars;
  next = b.next;
  sites = a.sites ++ b.sites;
}

abbrev pub else_code : List Variable → Lowered → LoweredBlock → (Counts → LoweredBlock) → LoweredBlock
else_code vars r a b = if_code vars r a (b a.next)

abbrev pub branches : List Variable → Lowered → (Counts → LoweredBlock) → (Counts → LoweredBlock) → LoweredBlock
branches vars r a b = else_code vars r (a r.next) b

abbrev pub second_of : List P4Expr → P4Expr
second_of [] = p_truth false
second_of (x ∷ []) = x
second_of (x ∷ y ∷ es) = y

abbrev pub filter_code : P4Expr → List P4Stmt
filter_code e = p_if (p_unary not_ e) (p_then p_return p_done) ∷ []

abbrev pub send_code : List P4Expr → List P4Stmt
send_code es = verdict 1 ∷ egress_port (second_of es) ∷ p_return ∷ []

abbrev pub sent : List Variable → LoweredAll → LoweredBlock
sent vars r = record { code = r.code ++ send_code r.exprs; made = r.made; vars = vars; next = r.next; sites = [] }

abbrev pub nowhere : List Variable → Counts → LoweredBlock
nowhere vars n = record { code = []; made = []; vars = vars; next = n; sites = [] }

abbrev pub followed : LoweredBlock → LoweredBlock → LoweredBlock
followed a b = record { code = a.code ++ b.code; made = a.made ++ b.made; vars = b.vars; next = b.next; sites = a.sites ++ b.sites }

abbrev pub then_block : LoweredBlock → (List Variable → Counts → LoweredBlock) → LoweredBlock
then_block a b = followed a (b a.vars a.next)

-- ---- forks

abbrev pub before_last_after : Expr → Exprs → Exprs
before_last_after e no_exprs = no_exprs
before_last_after e (expr x es) = expr e (before_last_after x es)

abbrev pub exprs_before_last : Exprs → Exprs
exprs_before_last no_exprs = no_exprs
exprs_before_last (expr e es) = before_last_after e es

-- a fork's expression is a call over some arguments and the choice
abbrev pub fork_function : Expr → List ℕ
fork_function (call at f es) = f.text
fork_function _ = []

abbrev pub fork_args : Expr → Exprs
fork_args (call at f es) = exprs_before_last es
fork_args _ = no_exprs

abbrev mutual
  pub in_expr : List ℕ → Expr → Bool
  in_expr x (name at y) = same_name x y
  in_expr x (field at h f) = false
  in_expr x (lit at w n) = false
  in_expr x (true_or_false at b) = false
  in_expr x (call at f es) = in_exprs x es
  in_expr x (unary at op a) = in_expr x a
  in_expr x (binary at op a b) = in_expr x a || in_expr x b
  in_expr x (slice at a high low) = in_expr x a
  in_expr x (pick at c a b) = in_expr x c || in_expr x a || in_expr x b

  pub in_exprs : List ℕ → Exprs → Bool
  in_exprs x no_exprs = false
  in_exprs x (expr e es) = in_expr x e || in_exprs x es

abbrev mutual
  pub in_stmt : List ℕ → Stmt → Bool
  in_stmt x (let_ at y w e) = in_expr x e
  in_stmt x (set_field at h f e) = in_expr x e
  in_stmt x (if_ at e first second) = in_expr x e || in_block x first || in_block x second
  in_stmt x (filter at e) = in_expr x e
  in_stmt x (havoc_var at y w) = false
  in_stmt x (havoc_field at h f) = false
  in_stmt x (assume at e) = in_expr x e
  in_stmt x (fork at y w e body) = in_expr x e || in_block x body
  in_stmt x (send at r es) = in_exprs x es

  pub in_block : List ℕ → Block → Bool
  in_block x no_stmts = false
  in_block x (stmt s rest) = in_stmt x s || in_block x rest

-- the port as a field
abbrev pub for_port : ℕ → P4Expr → P4Expr
for_port j p_port = p_meta j
for_port j e = e

abbrev pub ports_kept : ℕ → List Variable → List Variable
ports_kept j [] = []
ports_kept j (v ∷ vars) = record { name = v.name; expr = for_port j v.expr } ∷ ports_kept j vars

abbrev pub copy_code : ℕ → P4Expr → List P4Stmt
copy_code q e = set_meta 0 (p_lit 8 q) ∷ group e ∷ verdict 2 ∷ p_return ∷ []

abbrev pub forked : List ℕ → ℕ → Block → Bool → List Variable → Lowered → LoweredBlock
forked x w body true vars r = record {
  code = r.code ++ (set_meta r.next.field p_port ∷ copy_code r.next.site r.expr);
  made = r.made ++ (a_field (var_name r.next.var) r.next.field 16 ∷ []);
  vars = vars;
  next = record { app = r.next.app; var = suc r.next.var; field = suc r.next.field; site = suc r.next.site };
  sites = record { number = r.next.site; vars = ports_kept r.next.field vars; x = x; width = w; body = body } ∷ [];
}
forked x w body false vars r = record {
  code = r.code ++ copy_code r.next.site r.expr;
  made = r.made;
  vars = vars;
  next = record { app = r.next.app; var = r.next.var; field = r.next.field; site = suc r.next.site };
  sites = record { number = r.next.site; vars = vars; x = x; width = w; body = body } ∷ [];
}

abbrev mutual
  pub lower_stmt : Callees → List Variable → Counts → Stmt → LoweredBlock
  lower_stmt c vars n (let_ at x w e) = let_code x.text w vars (lower_expr c vars n e)
  lower_stmt c vars n (set_field at h f e) = effect (λ v. set_header (header_place c.headers h.text) (field_place c.headers h.text f.text) v ∷ []) vars (lower_expr c vars n e)
  lower_stmt c vars n (if_ at e first second) = branches vars (lower_expr c vars n e) (λ k. lower_block c vars k first) (λ k. lower_block c vars k second)
  lower_stmt c vars n (filter at e) = effect filter_code vars (lower_expr c vars n e)
  lower_stmt c vars n (havoc_var at x w) = nowhere vars n
  lower_stmt c vars n (havoc_field at h f) = nowhere vars n
  lower_stmt c vars n (assume at e) = nowhere vars n
  lower_stmt c vars n (fork at x w e body) = forked x.text w body (in_block c.port body) vars (then_called (lower_exprs c vars n (fork_args e)) (c.group (fork_function e)))
  lower_stmt c vars n (send at r es) = sent vars (lower_exprs c vars n es)

  pub lower_block : Callees → List Variable → Counts → Block → LoweredBlock
  lower_block c vars n no_stmts = nowhere vars n
  lower_block c vars n (stmt s rest) = then_block (lower_stmt c vars n s) (λ more k. lower_block c more k rest)
