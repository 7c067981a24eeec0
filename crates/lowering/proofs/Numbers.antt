-- Meta fields, tables and forks are numbered one after another.
use Rattle.std.specs.Prelude.{◌≡◌, ℕ, suc, Bool, true, false, cond, List, [], ◌∷◌, ◌++◌, length, slice_get, Option, Some, None, refl}
use Rattle.std.proofs.Common.{sym, ◌∙◌, ap, subst}
use Rattle.std.proofs.lemmas.List.{append_assoc}
use Rattle.cocoon_num.specs.Tree.{Param, Expr, name, Exprs, FunctionDecl, HeaderDecl, Stmt, Block, field, lit, true_or_false, call, unary, binary, slice, pick, no_exprs, expr, let_, set_field, if_, filter, havoc_var, havoc_field, assume, fork, send, no_stmts, stmt}
use Rattle.cocoon_num.specs.Names.{same_name}
use Rattle.p4_ir.specs.P4Tree.{P4Expr, p_meta}
use Rattle.lowering.specs.Lower.{Counts, FieldName, Made, a_field, a_table, a_group, Variable, Lowered, Callees, callees, lower_expr, lower_exprs, lower_call, lower_group, by_table, by_group, closed, fields_from, past, params_before_last, key_name, var_name, variables_from, after_args, kind_width, then_called}
use Rattle.lowering.specs.LowerBlock.{Site, forked, in_block, fork_args, fork_function, lower_stmt, lower_block}
use Rattle.lowering.specs.LowerSites.{LoweredSites, lower_site, lower_sites}
use Rattle.lowering.specs.Log.{Placed, NumberedTo, Grown, CallsGrow, FieldsAt, widths_in}

placed_both : (i a j b k c : ℕ) (xs ys : List Made) → Placed i a xs j b → Placed j b ys k c → Placed i a (xs ++ ys) k c
placed_both i a j b k c [] ys h g = rw (h.0, h.1) g
placed_both i a j b k c (a_field x m w ∷ xs) ys h g = (h.0, placed_both (suc i) a j b k c xs ys h.1 g)
placed_both i a j b k c (a_table t f ps ∷ xs) ys h g = (h.0, placed_both i (suc a) j b k c xs ys h.1 g)
placed_both i a j b k c (a_group t f ps ∷ xs) ys h g = (h.0, placed_both i (suc a) j b k c xs ys h.1 g)

grown_both : (n k m : Counts) (xs ys : List Made) → Grown n xs k → Grown k ys m → Grown n (xs ++ ys) m
grown_both n k m xs ys h g = record { placed = placed_both n.field n.app k.field k.app m.field m.app xs ys h.placed g.placed; site = g.site ∙ h.site }

grown_none : (n : Counts) → Grown n [] n
grown_none n = record { placed = (refl, refl); site = refl }

fields_placed : (called : ℕ → FieldName) (j i a : ℕ) (ps : List Param) → Placed i a (fields_from called j i ps) (past i ps) a
fields_placed called j i a [] = (refl, refl)
fields_placed called j i a (p ∷ ps) = (refl, fields_placed called (suc j) (suc i) a ps)

mutual
  pub expr_grows : (c : Callees) → CallsGrow c → (e : Expr) (vars : List Variable) (n : Counts) → Grown n (lower_expr c vars n e).made (lower_expr c vars n e).next
  expr_grows c g (name p x) vars n = grown_none n
  expr_grows c g (field p h f) vars n = grown_none n
  expr_grows c g (lit p w x) vars n = grown_none n
  expr_grows c g (true_or_false p b) vars n = grown_none n
  expr_grows c g (call p f es) vars n =
      grown_both n (lower_exprs c vars n es).next _ (lower_exprs c vars n es).made _ (exprs_grow c g es vars n) (g.0 f.text (lower_exprs c vars n es).exprs (lower_exprs c vars n es).next)
  expr_grows c g (unary p op a) vars n = expr_grows c g a vars n
  expr_grows c g (binary p op a b) vars n = grown_both n (lower_expr c vars n a).next _ (lower_expr c vars n a).made _ (expr_grows c g a vars n) (expr_grows c g b vars (lower_expr c vars n a).next)
  expr_grows c g (slice p a hi lo) vars n = expr_grows c g a vars n
  expr_grows c g (pick p e a b) vars n =
      let k : Counts = (lower_expr c vars n e).next in
      grown_both n k (lower_expr c vars (lower_expr c vars k a).next b).next (lower_expr c vars n e).made ((lower_expr c vars k a).made ++ (lower_expr c vars (lower_expr c vars k a).next b).made) (expr_grows c g e vars n)
      (grown_both k (lower_expr c vars k a).next (lower_expr c vars (lower_expr c vars k a).next b).next (lower_expr c vars k a).made (lower_expr c vars (lower_expr c vars k a).next b).made (expr_grows c g a vars k) (expr_grows c g b vars (lower_expr c vars k a).next))

  pub exprs_grow : (c : Callees) → CallsGrow c → (es : Exprs) (vars : List Variable) (n : Counts) → Grown n (lower_exprs c vars n es).made (lower_exprs c vars n es).next
  exprs_grow c g no_exprs vars n = grown_none n
  exprs_grow c g (expr e es) vars n = grown_both n (lower_expr c vars n e).next _ (lower_expr c vars n e).made _ (expr_grows c g e vars n) (exprs_grow c g es vars (lower_expr c vars n e).next)

either_grows : (b : Bool) (n : Counts) (X Y : Lowered) → Grown n X.made X.next → Grown n Y.made Y.next → Grown n (cond b X Y).made (cond b X Y).next
either_grows true n X Y h g = h
either_grows false n X Y h g = g

group_grows : (fs : List FunctionDecl) (f : List ℕ) (es : List P4Expr) (n : Counts) → Grown n (lower_group fs f es n).made (lower_group fs f es n).next
group_grows [] f es n = grown_none n
group_grows (d ∷ earlier) f es n =
    either_grows (same_name f d.name.text) n (by_group d es n) (lower_group earlier f es n)
    (record { placed = placed_both n.field n.app (past n.field (params_before_last d.params)) n.app _ _ (fields_from (key_name n.app) 0 n.field (params_before_last d.params)) _ (fields_placed (key_name n.app) 0 n.field n.app (params_before_last d.params)) (refl, (refl, (refl, refl))); site = refl })
    (group_grows earlier f es n)

abbrev lowered_by : List HeaderDecl → List FunctionDecl → FunctionDecl → List P4Expr → Counts → Option Expr → Lowered
lowered_by headers earlier d es n body = elim body [
  | None ↦ by_table d es n
  | Some e ↦ closed d es n (lower_expr (record { headers = headers; call = lower_call headers earlier; group = lower_group earlier; port = [] }) (variables_from n.field d.params) (after_args d n) e)
]

body_grows : (headers : List HeaderDecl) (earlier : List FunctionDecl) → CallsGrow (callees headers earlier []) → (d : FunctionDecl) (es : List P4Expr) (n : Counts) (body : Option Expr)
    → Grown n (lowered_by headers earlier d es n body).made (lowered_by headers earlier d es n body).next
body_grows headers earlier g d es n None =
    record { placed = placed_both n.field n.app (past n.field d.params) n.app _ _ (fields_from (key_name n.app) 0 n.field d.params) _ (fields_placed (key_name n.app) 0 n.field n.app d.params) (refl, (refl, (refl, refl))); site = refl }
body_grows headers earlier g d es n (Some e) =
    let q : Lowered = lower_expr (callees headers earlier []) (variables_from n.field d.params) (after_args d n) e in
    let h : Grown (after_args d n) q.made q.next = expr_grows (callees headers earlier []) g e (variables_from n.field d.params) (after_args d n) in
    record {
      placed = placed_both n.field n.app (past n.field d.params) n.app (suc q.next.field) q.next.app (fields_from var_name n.var n.field d.params) _ (fields_placed var_name n.var n.field n.app d.params)
          (placed_both (past n.field d.params) n.app q.next.field q.next.app (suc q.next.field) q.next.app q.made (a_field (var_name q.next.var) q.next.field (kind_width d.result) ∷ []) h.placed (refl, (refl, refl)));
      site = h.site;
    }

call_grows : (headers : List HeaderDecl) (fs : List FunctionDecl) (f : List ℕ) (es : List P4Expr) (n : Counts) → Grown n (lower_call headers fs f es n).made (lower_call headers fs f es n).next
call_grows headers [] f es n = grown_none n
call_grows headers (d ∷ earlier) f es n =
    either_grows (same_name f d.name.text) n (lowered_by headers earlier d es n d.body) (lower_call headers earlier f es n)
    (body_grows headers earlier ((λ f es n. call_grows headers earlier f es n), (λ f es n. group_grows earlier f es n)) d es n d.body) (call_grows headers earlier f es n)

pub calls_grow : (headers : List HeaderDecl) (fs : List FunctionDecl) (port : List ℕ) → CallsGrow (callees headers fs port)
calls_grow headers fs port = (call_grows headers fs, group_grows fs)

-- ---- statements

abbrev pub All : Counts → List Made → List Site → Counts → Type 0
All n made sites next = Placed n.field n.app made next.field next.app × NumberedTo n.site sites next.site

to_both : (k m j : ℕ) (xs ys : List Site) → NumberedTo k xs m → NumberedTo m ys j → NumberedTo k (xs ++ ys) j
to_both k m j [] ys h g = rw h g
to_both k m j (x ∷ xs) ys h g = (h.0, to_both (suc k) m j xs ys h.1 g)

all_both : (n k m : Counts) (xs ys : List Made) (ss ts : List Site) → All n xs ss k → All k ys ts m → All n (xs ++ ys) (ss ++ ts) m
all_both n k m xs ys ss ts h g = (placed_both n.field n.app k.field k.app m.field m.app xs ys h.0 g.0, to_both n.site k.site m.site ss ts h.1 g.1)

plainly : (n k : Counts) (xs : List Made) → Grown n xs k → All n xs [] k
plainly n k xs h = (h.placed, sym h.site)

fork_grows : (saves : Bool) (x : List ℕ) (w : ℕ) (body : Block) (vars : List Variable) (n : Counts) (r : Lowered) → Grown n r.made r.next → All n (forked x w body saves vars r).made (forked x w body saves vars r).sites (forked x w body saves vars r).next
fork_grows true x w body vars n r h =
    (placed_both n.field n.app r.next.field r.next.app (suc r.next.field) r.next.app r.made (a_field (var_name r.next.var) r.next.field 16 ∷ []) h.placed (refl, (refl, refl)), (h.site, ap suc (sym h.site)))
fork_grows false x w body vars n r h = (h.placed, (h.site, ap suc (sym h.site)))

mutual
  pub stmt_grows : (c : Callees) → CallsGrow c → (s : Stmt) (vars : List Variable) (n : Counts) → All n (lower_stmt c vars n s).made (lower_stmt c vars n s).sites (lower_stmt c vars n s).next
  stmt_grows c g (let_ p x w e) vars n =
      let q : Lowered = lower_expr c vars n e in
      let h : Grown n q.made q.next = expr_grows c g e vars n in
      (placed_both n.field n.app q.next.field q.next.app (suc q.next.field) q.next.app q.made (a_field (var_name q.next.var) q.next.field w ∷ []) h.placed (refl, (refl, refl)), sym h.site)
  stmt_grows c g (set_field p h f e) vars n = plainly n _ _ (expr_grows c g e vars n)
  stmt_grows c g (if_ p e first second) vars n =
      let k : Counts = (lower_expr c vars n e).next in
      all_both n k (lower_block c vars (lower_block c vars k first).next second).next (lower_expr c vars n e).made ((lower_block c vars k first).made ++ (lower_block c vars (lower_block c vars k first).next second).made)
      [] ((lower_block c vars k first).sites ++ (lower_block c vars (lower_block c vars k first).next second).sites) (plainly n k (lower_expr c vars n e).made (expr_grows c g e vars n))
      (all_both k (lower_block c vars k first).next (lower_block c vars (lower_block c vars k first).next second).next (lower_block c vars k first).made (lower_block c vars (lower_block c vars k first).next second).made
      (lower_block c vars k first).sites (lower_block c vars (lower_block c vars k first).next second).sites (block_grows c g first vars k) (block_grows c g second vars (lower_block c vars k first).next))
  stmt_grows c g (filter p e) vars n = plainly n _ _ (expr_grows c g e vars n)
  stmt_grows c g (havoc_var p x w) vars n = plainly n n [] (grown_none n)
  stmt_grows c g (havoc_field p h f) vars n = plainly n n [] (grown_none n)
  stmt_grows c g (assume p e) vars n = plainly n n [] (grown_none n)
  stmt_grows c g (fork p x w e body) vars n =
      fork_grows (in_block c.port body) x.text w body vars n (then_called (lower_exprs c vars n (fork_args e)) (c.group (fork_function e)))
      (grown_both n (lower_exprs c vars n (fork_args e)).next _ (lower_exprs c vars n (fork_args e)).made _ (exprs_grow c g (fork_args e) vars n) (g.1 (fork_function e) (lower_exprs c vars n (fork_args e)).exprs (lower_exprs c vars n (fork_args e)).next))
  stmt_grows c g (send p r es) vars n = plainly n _ _ (exprs_grow c g es vars n)

  pub block_grows : (c : Callees) → CallsGrow c → (b : Block) (vars : List Variable) (n : Counts) → All n (lower_block c vars n b).made (lower_block c vars n b).sites (lower_block c vars n b).next
  block_grows c g no_stmts vars n = plainly n n [] (grown_none n)
  block_grows c g (stmt s rest) vars n =
      all_both n (lower_stmt c vars n s).next (lower_block c (lower_stmt c vars n s).vars (lower_stmt c vars n s).next rest).next (lower_stmt c vars n s).made _ (lower_stmt c vars n s).sites _ (stmt_grows c g s vars n) (block_grows c g rest (lower_stmt c vars n s).vars (lower_stmt c vars n s).next)

-- ---- the blocks of forks

pub sites_grow : (c : Callees) → CallsGrow c → (sites : List Site) (n : Counts) → Placed n.field n.app (lower_sites c n sites).made (lower_sites c n sites).next.field (lower_sites c n sites).next.app
sites_grow c g [] n = (refl, refl)
sites_grow c g (x ∷ xs) n =
    let first : LoweredSites = lower_site c n x in
    placed_both n.field n.app first.next.field first.next.app (lower_sites c first.next xs).next.field (lower_sites c first.next xs).next.app first.made (lower_sites c first.next xs).made
    (refl, (block_grows c g x.body (record { name = x.x; expr = p_meta n.field } ∷ x.vars) (record { app = n.app; var = suc n.var; field = suc n.field; site = n.site })).0)
    (sites_grow c g xs first.next)

-- ---- the program of a log

at_end : (pre : List ℕ) (w : ℕ) (ws : List ℕ) → slice_get (pre ++ (w ∷ ws)) (length pre) ≡ Some w
at_end [] w ws = refl
at_end (x ∷ pre) w ws = at_end pre w ws

longer : (pre : List ℕ) (w : ℕ) → length (pre ++ (w ∷ [])) ≡ suc (length pre)
longer [] w = refl
longer (x ∷ pre) w = ap suc (longer pre w)

fields_from_here : (pre : List ℕ) (i a j b : ℕ) (ms : List Made) → length pre ≡ i → Placed i a ms j b → FieldsAt (pre ++ widths_in ms) ms
fields_from_here pre i a j b [] h p = tt
fields_from_here pre i a j b (a_field x k w ∷ ms) h p = (
  rw (p.0, ← h) (at_end pre w (widths_in ms)),
  subst (λ ws. FieldsAt ws ms) (append_assoc pre (w ∷ []) (widths_in ms)) (fields_from_here (pre ++ (w ∷ [])) (suc i) a j b ms (longer pre w ∙ ap suc h) p.1),
)
fields_from_here pre i a j b (a_table t f ps ∷ ms) h p = fields_from_here pre i (suc a) j b ms h p.1
fields_from_here pre i a j b (a_group t f ps ∷ ms) h p = fields_from_here pre i (suc a) j b ms h p.1

pub fields_at : (a j b : ℕ) (ms : List Made) → Placed 1 a ms j b → FieldsAt (8 ∷ widths_in ms) ms
fields_at a j b ms p = fields_from_here (8 ∷ []) 1 a j b ms refl p
