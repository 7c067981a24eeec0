-- Lowered blocks, and the blocks of forks, are flat.
use Rattle.std.specs.Prelude.{◌≡◌, ℕ, zero, suc, ◌+◌, ◌≤◌, Bool, true, false, cond, List, [], ◌∷◌, ◌++◌, refl}
use Rattle.std.proofs.Common.{arith}
use Rattle.cocoon_num.specs.Tree.{Expr, name, field, lit, true_or_false, call, unary, binary, slice, pick, Exprs, no_exprs, expr, Stmt, let_, set_field, if_, filter, havoc_var, havoc_field, assume, fork, send, Block, no_stmts, stmt}
use Rattle.p4_ir.specs.P4Tree.{P4Expr, p_meta, p_port, P4Stmt, set_meta, p_return}
use Rattle.p4_kinds.specs.Flat.{operators_in as weight, FewOperators as Light, Flat}
use Rattle.lowering.specs.Lower.{Counts, Variable, Lowered, Callees, then_called, lower_expr, lower_exprs}
use Rattle.lowering.specs.LowerBlock.{Site, LoweredBlock, if_stmt, second_of, before_last_after, exprs_before_last, fork_function, fork_args, in_block, for_port, ports_kept, copy_code, forked, lower_stmt, lower_block}
use Rattle.lowering.specs.LowerSites.{is_return, with_return, lower_site, lower_sites}
use Rattle.lowering_fits.specs.ShallowTrees.{operators_in, operators_in_all, ShallowStmt, ShallowBlock}
use Rattle.lowering_fits.proofs.Expressions.{FlatCode, flat_append, AllLight, Atoms, CallsLight, expr_light, exprs_light, expr_flat, exprs_flat}

-- ---- trees

mutual
  stmt_within : (s : Stmt) (n : ℕ) → ShallowStmt n s → ShallowStmt (suc n) s
  stmt_within (let_ at x w e) n h = h
  stmt_within (set_field at x f e) n h = h
  stmt_within (if_ at e a b) zero h = absurd h
  stmt_within (if_ at e a b) (suc n) h = (h.0, block_within a n h.1, block_within b n h.2)
  stmt_within (filter at e) n h = h
  stmt_within (havoc_var at x w) n h = tt
  stmt_within (havoc_field at x f) n h = tt
  stmt_within (assume at e) n h = h
  stmt_within (fork at x w e b) zero h = absurd h
  stmt_within (fork at x w e b) (suc n) h = (h.0, block_within b n h.1)
  stmt_within (send at r es) n h = h

  pub block_within : (b : Block) (n : ℕ) → ShallowBlock n b → ShallowBlock (suc n) b
  block_within no_stmts n h = tt
  block_within (stmt s rest) n h = (stmt_within s n h.0, block_within rest n h.1)

before_last_few : (es : Exprs) → operators_in_all (exprs_before_last es) ≤ operators_in_all es
before_last_few no_exprs = omega arith
before_last_few (expr e es) = after e es
  where
    after : (e : Expr) (es : Exprs) → operators_in_all (before_last_after e es) ≤ operators_in e + operators_in_all es
    after e no_exprs = omega arith
    after e (expr x es) = omega (arith, after x es)

args_few : (e : Expr) → operators_in_all (fork_args e) ≤ operators_in e
args_few (call at f es) = before_last_few es
args_few (name at x) = omega arith
args_few (field at h f) = omega arith
args_few (lit at w n) = omega arith
args_few (true_or_false at b) = omega arith
args_few (unary at op a) = omega arith
args_few (binary at op a b) = omega arith
args_few (slice at a h l) = omega arith
args_few (pick at c a b) = omega arith

-- ---- sites

abbrev pub LightSites : (n : ℕ) → List Site → Type 0
LightSites n [] = Unit {0}
LightSites n (x ∷ xs) = Atoms x.vars × ShallowBlock n x.body × LightSites n xs

sites_within : (xs : List Site) (n : ℕ) → LightSites n xs → LightSites (suc n) xs
sites_within [] n h = tt
sites_within (x ∷ xs) n h = (h.0, block_within x.body n h.1, sites_within xs n h.2)

sites_append : (n : ℕ) (xs ys : List Site) → LightSites n xs → LightSites n ys → LightSites n (xs ++ ys)
sites_append n [] ys h k = k
sites_append n (x ∷ xs) ys h k = (h.0, h.1, sites_append n xs ys h.2 k)

port_weight : (j : ℕ) (e : P4Expr) → weight e ≡ 0 → weight (for_port j e) ≡ 0
port_weight j p_port h = refl
port_weight j e h = h

ports_atoms : (j : ℕ) (vars : List Variable) → Atoms vars → Atoms (ports_kept j vars)
ports_atoms j [] h = tt
ports_atoms j (v ∷ vars) h = (port_weight j v.expr h.0, ports_atoms j vars h.1)

-- ---- statements

pub record LightBlock (n : ℕ) (r : LoweredBlock) : Type 0 where
  pub code : FlatCode (suc n) r.code
  pub vars : Atoms r.vars
  pub sites : LightSites n r.sites

one_more : (n : ℕ) (xs : List P4Stmt) (s : P4Stmt) → FlatCode n xs → Flat n s → FlatCode n (xs ++ (s ∷ []))
one_more n xs s h k = flat_append n xs (s ∷ []) h (k, tt)

if_flat : (n : ℕ) (e : P4Expr) (xs ys : List P4Stmt) → Light e → FlatCode n xs → FlatCode n ys → Flat (suc n) (if_stmt e xs ys)
if_flat n e xs [] l h k = (l, h)
if_flat n e xs (y ∷ ys) l h k = (l, h, k)

second_light : (es : List P4Expr) → AllLight es → Light (second_of es)
second_light [] h = omega arith
second_light (x ∷ []) h = h.0
second_light (x ∷ y ∷ es) h = h.1.0

forked_light : (n : ℕ) (x : List ℕ) (w : ℕ) (b : Block) (kept : Bool) (vars : List Variable) (r : Lowered) → Atoms vars → ShallowBlock n b
    → FlatCode (suc (suc n)) r.code → weight r.expr ≤ 1 → LightBlock (suc n) (forked x w b kept vars r)
forked_light n x w b true vars r v s h l = record {
  code = flat_append (suc (suc n)) r.code (set_meta r.next.field p_port ∷ copy_code r.next.site r.expr) h (omega arith, (omega arith, (omega (arith, l), (tt, (tt, tt)))));
  vars = v;
  sites = (ports_atoms r.next.field vars v, block_within b n s, tt);
}
forked_light n x w b false vars r v s h l = record {
  code = flat_append (suc (suc n)) r.code (copy_code r.next.site r.expr) h (omega arith, (omega (arith, l), (tt, (tt, tt))));
  vars = v;
  sites = (v, block_within b n s, tt);
}

mutual
  stmt_light : (c : Callees) → CallsLight c → (vars : List Variable) → Atoms vars → (k : Counts) (s : Stmt) (n : ℕ) → ShallowStmt n s → LightBlock n (lower_stmt c vars k s)
  stmt_light c g vars v k (let_ at x w e) n h = record {
    code = one_more (suc n) (lower_expr c vars k e).code _ (expr_flat c g vars v k e h (suc n)) (omega (arith, expr_light c g vars v k e h));
    vars = (refl, v);
    sites = tt;
  }
  stmt_light c g vars v k (set_field at x f e) n h = record {
    code = one_more (suc n) (lower_expr c vars k e).code _ (expr_flat c g vars v k e h (suc n)) (omega (arith, expr_light c g vars v k e h));
    vars = v;
    sites = tt;
  }
  stmt_light c g vars v k (if_ at e a b) zero h = absurd h
  stmt_light c g vars v k (if_ at e a b) (suc n) h =
      let r = lower_expr c vars k e in
      let x = block_light c g vars v r.next a n h.1 in
      let y = block_light c g vars v (lower_block c vars r.next a).next b n h.2 in
      record {
        code = one_more (suc (suc n)) r.code _ (expr_flat c g vars v k e h.0 (suc (suc n)))
            (if_flat (suc n) r.expr (lower_block c vars r.next a).code (lower_block c vars (lower_block c vars r.next a).next b).code (omega (arith, expr_light c g vars v k e h.0)) x.code y.code);
        vars = v;
        sites = sites_append (suc n) (lower_block c vars r.next a).sites _ (sites_within _ n x.sites) (sites_within _ n y.sites);
      }
  stmt_light c g vars v k (filter at e) n h = record {
    code = one_more (suc n) (lower_expr c vars k e).code _ (expr_flat c g vars v k e h (suc n)) (omega (arith, expr_light c g vars v k e h), (tt, tt));
    vars = v;
    sites = tt;
  }
  stmt_light c g vars v k (havoc_var at x w) n h = record { code = tt; vars = v; sites = tt }
  stmt_light c g vars v k (havoc_field at x f) n h = record { code = tt; vars = v; sites = tt }
  stmt_light c g vars v k (assume at e) n h = record { code = tt; vars = v; sites = tt }
  stmt_light c g vars v k (fork at x w e b) zero h = absurd h
  stmt_light c g vars v k (fork at x w e b) (suc n) h =
      let es = fork_args e in
      let few : operators_in_all es ≤ 128 = omega (arith, args_few e, h.0) in
      let a = lower_exprs c vars k es in
      let r = g.1 (fork_function e) a.exprs a.next in
      forked_light n x.text w b (in_block c.port b) vars (then_called a (c.group (fork_function e))) v h.1
      (flat_append (suc (suc n)) a.code _ (exprs_flat c g vars v k es few (suc (suc n))) (r.code (exprs_light c g vars v k es few) (suc (suc n)))) r.expr
  stmt_light c g vars v k (send at r es) n h = record {
    code = flat_append (suc n) (lower_exprs c vars k es).code _ (exprs_flat c g vars v k es h (suc n)) (tt, (second_light (lower_exprs c vars k es).exprs (exprs_light c g vars v k es h), (tt, tt)));
    vars = v;
    sites = tt;
  }

  pub block_light : (c : Callees) → CallsLight c → (vars : List Variable) → Atoms vars → (k : Counts) (b : Block) (n : ℕ) → ShallowBlock n b → LightBlock n (lower_block c vars k b)
  block_light c g vars v k no_stmts n h = record { code = tt; vars = v; sites = tt }
  block_light c g vars v k (stmt s rest) n h =
      let a = lower_stmt c vars k s in
      let x = stmt_light c g vars v k s n h.0 in
      let y = block_light c g a.vars x.vars a.next rest n h.1 in
      record { code = flat_append (suc n) a.code _ x.code y.code; vars = y.vars; sites = sites_append n a.sites _ x.sites y.sites }

-- ---- the blocks of forks

either_flat : (n : ℕ) (b : Bool) (xs ys : List P4Stmt) → FlatCode n xs → FlatCode n ys → FlatCode n (cond b xs ys)
either_flat n true xs ys h k = h
either_flat n false xs ys h k = k

return_flat : (n : ℕ) (xs : List P4Stmt) → FlatCode n xs → FlatCode n (with_return xs)
return_flat n [] h = (tt, tt)
return_flat n (x ∷ []) h = either_flat n (is_return x) (x ∷ []) (x ∷ p_return ∷ []) h (h.0, (tt, tt))
return_flat n (x ∷ y ∷ xs) h = (h.0, return_flat n (y ∷ xs) h.1)

pub sites_flat : (c : Callees) → CallsLight c → (k : Counts) (xs : List Site) (n : ℕ) → LightSites n xs → FlatCode (suc (suc n)) (lower_sites c k xs).code
sites_flat c g k [] n h = tt
sites_flat c g k (x ∷ xs) n h =
    let vars : List Variable = record { name = x.x; expr = p_meta k.field } ∷ x.vars in
    let at : Counts = record { app = k.app; var = suc k.var; field = suc k.field; site = k.site } in
    let b = block_light c g vars (refl, h.0) at x.body n h.1 in
    ((omega arith, (omega arith, return_flat (suc n) (lower_block c vars at x.body).code b.code)), sites_flat c g (lower_site c k x).next xs n h.2)
