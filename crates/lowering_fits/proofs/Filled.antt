-- Filling the holes of lowered code is lowering with the number in their place.
use Rattle.std.proofs.Common.{◌≡◌, ℕ, suc, ◌-◌, ◌==◌, ◌&&◌, nat_le, Bool, true, false, if◌then◌else◌, List, [], ◌∷◌, ◌++◌, map, codes, Option, Some, None, refl, sym, ap, ap₂, ◌∙◌, arith}
use Rattle.std.specs.List.{list_all}
use Rattle.std.proofs.lemmas.Bool.{and_parts}
use Rattle.std.proofs.lemmas.Bool.Decides.{nat_tests}
use Rattle.std.proofs.lemmas.List.{map-append}
use Rattle.cocoon_num.specs.Names.{same_name}
use Rattle.cocoon_num.specs.Values.{BinaryOp, equal, implies}
use Rattle.cocoon_num.specs.Tree.{Param, ResultKind, of_width, of_truth, Expr, name, field, lit, true_or_false, call, unary, binary, slice, pick, Exprs, no_exprs, expr, FunctionDecl, HeaderDecl, Stmt, Block, let_, set_field, if_, filter, havoc_var, havoc_field, assume, fork, send, no_stmts, stmt}
use Rattle.p4_ir.specs.P4Tree.{P4Expr, p_lit, p_meta, p_port, p_rid, p_unary, p_binary, p_slice, p_pick, P4Stmt, set_meta, set_header, apply_table, p_if, p_if_else, verdict, egress_port, p_return, p_then, Program}
use Rattle.p4_ir.specs.Program.{block_of}
use Rattle.lowering.specs.Log.{tables_in}
use Rattle.lowering.specs.Lower.{Callees, Counts, Lowered, LoweredAll, Variable, after_args, and_then, by_group, by_table, called, callees, closed, field_place, header_place, joined_three, kept, lower_call, lower_expr, lower_exprs, lower_group, over, p_operation, past, plain, put_before, read_back, second_third, sets, then_all, then_called, under, variable_expr, variables_from}
use Rattle.lowering.specs.LowerBlock.{LoweredBlock, Site, before_last_after, branches, else_code, exprs_before_last, followed, for_port, fork_args, fork_function, forked, if_code, if_stmt, in_block, lower_block, lower_stmt, ports_kept, second_of, sent, then_block, let_code, effect, filter_code, send_code, copy_code}
use Rattle.lowering.specs.LowerSites.{LoweredSites, is_return, lower_site, lower_sites, more_sites, site_code, with_return}
use Rattle.lowering.specs.Whole.{SwitchRole, role_lowered}
use Rattle.lowering.specs.SwitchProgram.{egress_lowered, fields_in, p4_header, switch_made, switch_program}
use Rattle.lowering_fits.specs.WideLiterals.{if_some, wide_block, wide_expr, wide_exprs, wide_stmt}
use Rattle.lowering_fits.specs.Filling.{HasWideLiterals, block_filled, expr_filled, filled, open_egress, open_lowered, open_made, open_program, open_vars, stmt_filled}

-- ---- what was lowered, filled

abbrev code_filled : ℕ → List P4Stmt → List P4Stmt
code_filled s code = map (stmt_filled s) code

abbrev lowered_filled : ℕ → Lowered → Lowered
lowered_filled s r = record { code = code_filled s r.code; made = r.made; expr = expr_filled s r.expr; next = r.next }

abbrev all_filled : ℕ → LoweredAll → LoweredAll
all_filled s r = record { code = code_filled s r.code; made = r.made; exprs = map (expr_filled s) r.exprs; next = r.next }

abbrev variable_filled : ℕ → Variable → Variable
variable_filled s v = record { name = v.name; expr = expr_filled s v.expr }

abbrev vars_filled : ℕ → List Variable → List Variable
vars_filled s [] = []
vars_filled s (v ∷ vars) = variable_filled s v ∷ vars_filled s vars

abbrev site_filled : ℕ → Site → Site
site_filled s x = record { number = x.number; vars = vars_filled s x.vars; x = x.x; width = x.width; body = x.body }

abbrev block_of_filled : ℕ → LoweredBlock → LoweredBlock
block_of_filled s r = record { code = code_filled s r.code; made = r.made; vars = vars_filled s r.vars; next = r.next; sites = map (site_filled s) r.sites }

abbrev sites_filled : ℕ → LoweredSites → LoweredSites
sites_filled s r = record { code = code_filled s r.code; made = r.made; next = r.next }

-- code in two parts, and in three
two : (s : ℕ) (a b : List P4Stmt) → code_filled s a ++ code_filled s b ≡ code_filled s (a ++ b)
two s a b = sym (map-append (stmt_filled s) a b)

three : (s : ℕ) (a b c : List P4Stmt) → code_filled s a ++ (code_filled s b ++ code_filled s c) ≡ code_filled s (a ++ (b ++ c))
three s a b c = ap (λ x. code_filled s a ++ x) (two s b c) ∙ two s a (b ++ c)

-- ---- expressions

wide_lit : (s w n : ℕ) → (nat_le 1 w && nat_le w 128) ≡ true → p_lit w n ≡ expr_filled s (p_lit w n)
wide_lit s w n h =
    let least : nat_le 1 w ≡ true = (and_parts (nat_le 1 w) (nat_le w 128) h).0 in
    let some : (w == 0) ≡ false = grind (arith, nat_tests, least) in
    ap (λ b. if b then p_lit 16 s else p_lit w n) (sym some)

operation_filled : (s : ℕ) (op : BinaryOp) (a b : P4Expr) → p_operation op (expr_filled s a) (expr_filled s b) ≡ expr_filled s (p_operation op a b)
operation_filled s implies a b = refl
operation_filled s op a b = refl

either_variable : (s : ℕ) (b : Bool) (e x y : P4Expr) → x ≡ expr_filled s y → (if b then expr_filled s e else x) ≡ expr_filled s (if b then e else y)
either_variable s true e x y h = refl
either_variable s false e x y h = h

variable_at : (s : ℕ) (vars : List Variable) (x : List ℕ) → variable_expr (vars_filled s vars) x ≡ expr_filled s (variable_expr vars x)
variable_at s [] x = refl
variable_at s (v ∷ vars) x = either_variable s (same_name x v.name) v.expr _ _ (variable_at s vars x)

abbrev CallsFill : ℕ → Callees → Type 0
CallsFill s c = (f : List ℕ) (es : List P4Expr) (n : Counts) → c.call f (map (expr_filled s) es) n ≡ lowered_filled s (c.call f es n)

over_filled : (s : ℕ) (f : P4Expr → P4Expr → P4Expr) → ((a b : P4Expr) → f (expr_filled s a) (expr_filled s b) ≡ expr_filled s (f a b)) → (a b : Lowered)
    → over f (lowered_filled s a) (lowered_filled s b) ≡ lowered_filled s (over f a b)
over_filled s f h a b = λ i. record { code = two s a.code b.code i; made = a.made ++ b.made; expr = h a.expr b.expr i; next = b.next }

called_filled : (s : ℕ) (a : LoweredAll) (r : Lowered) → called (all_filled s a) (lowered_filled s r) ≡ lowered_filled s (called a r)
called_filled s a r = λ i. record { code = two s a.code r.code i; made = a.made ++ r.made; expr = expr_filled s r.expr; next = r.next }

mutual
  expr_fills : (s : ℕ) (c : Callees) → CallsFill s c → (vars : List Variable) (n : Counts) (e : Expr) → wide_expr e ≡ true → lower_expr c (vars_filled s vars) n e ≡ lowered_filled s (lower_expr c vars n e)
  expr_fills s c g vars n (name at x) w = ap (plain n) (variable_at s vars x)
  expr_fills s c g vars n (field at h f) w = refl
  expr_fills s c g vars n (lit at k x) w = ap (plain n) (wide_lit s k x w)
  expr_fills s c g vars n (true_or_false at b) w = refl
  expr_fills s c g vars n (call at f es) w =
      let a = lower_exprs c vars n es in
      ap (λ x. then_called x (c.call f.text)) (exprs_fill s c g vars n es w)
      ∙ ap (called (all_filled s a)) (g f.text a.exprs a.next)
      ∙ called_filled s a (c.call f.text a.exprs a.next)
  expr_fills s c g vars n (unary at op a) w = ap (under (p_unary op)) (expr_fills s c g vars n a w)
  expr_fills s c g vars n (binary at op a b) w =
      let both = and_parts (wide_expr a) (wide_expr b) w in
      let x = lower_expr c vars n a in
      ap (λ z. and_then (p_operation op) z (λ k. lower_expr c (vars_filled s vars) k b)) (expr_fills s c g vars n a both.0)
      ∙ ap (over (p_operation op) (lowered_filled s x)) (expr_fills s c g vars x.next b both.1)
      ∙ over_filled s (p_operation op) (operation_filled s op) x (lower_expr c vars x.next b)
  expr_fills s c g vars n (slice at a high low) w = ap (under (λ e. p_slice e high low)) (expr_fills s c g vars n a w)
  expr_fills s c g vars n (pick at e a b) w =
      let first = and_parts (wide_expr e && wide_expr a) (wide_expr b) w in
      let both = and_parts (wide_expr e) (wide_expr a) first.0 in
      let z = lower_expr c vars n e in
      let x = lower_expr c vars z.next a in
      let y = lower_expr c vars x.next b in
      ap (λ r. second_third r (λ k. lower_expr c (vars_filled s vars) k a) (λ k. lower_expr c (vars_filled s vars) k b)) (expr_fills s c g vars n e both.0)
      ∙ ap (λ r. joined_three (lowered_filled s z) r (lower_expr c (vars_filled s vars) r.next b)) (expr_fills s c g vars z.next a both.1)
      ∙ ap (λ r. joined_three (lowered_filled s z) (lowered_filled s x) r) (expr_fills s c g vars x.next b first.1)
      ∙ (λ i. record { code = three s z.code x.code y.code i; made = z.made ++ (x.made ++ y.made); expr = expr_filled s (p_pick z.expr x.expr y.expr); next = y.next })

  exprs_fill : (s : ℕ) (c : Callees) → CallsFill s c → (vars : List Variable) (n : Counts) (es : Exprs) → wide_exprs es ≡ true → lower_exprs c (vars_filled s vars) n es ≡ all_filled s (lower_exprs c vars n es)
  exprs_fill s c g vars n no_exprs w = refl
  exprs_fill s c g vars n (expr e es) w =
      let both = and_parts (wide_expr e) (wide_exprs es) w in
      let x = lower_expr c vars n e in
      let y = lower_exprs c vars x.next es in
      ap (λ z. then_all z (λ k. lower_exprs c (vars_filled s vars) k es)) (expr_fills s c g vars n e both.0)
      ∙ ap (put_before (lowered_filled s x)) (exprs_fill s c g vars x.next es both.1)
      ∙ (λ i. record { code = two s x.code y.code i; made = x.made ++ y.made; exprs = expr_filled s x.expr ∷ map (expr_filled s) y.exprs; next = y.next })

-- ---- calls

sets_filled : (s i : ℕ) (es : List P4Expr) → sets i (map (expr_filled s) es) ≡ code_filled s (sets i es)
sets_filled s i [] = refl
sets_filled s i (e ∷ es) = ap (λ x. set_meta i (expr_filled s e) ∷ x) (sets_filled s (suc i) es)

kept_filled : (s : ℕ) (k : ResultKind) (e : P4Expr) → kept k (expr_filled s e) ≡ expr_filled s (kept k e)
kept_filled s (of_width w) e = refl
kept_filled s of_truth e = refl

read_filled : (s : ℕ) (k : ResultKind) (i : ℕ) → read_back k i ≡ expr_filled s (read_back k i)
read_filled s (of_width w) i = refl
read_filled s of_truth i = refl

params_filled : (s i : ℕ) (ps : List Param) → vars_filled s (variables_from i ps) ≡ variables_from i ps
params_filled s i [] = refl
params_filled s i (p ∷ ps) = ap (λ (vars : List Variable). record { name = p.name.text; expr = p_meta i } ∷ vars) (params_filled s (suc i) ps)

-- arguments that are set, and a table that is applied
applied_filled : (s i a : ℕ) (es : List P4Expr) → sets i (map (expr_filled s) es) ++ (apply_table a ∷ []) ≡ code_filled s (sets i es ++ (apply_table a ∷ []))
applied_filled s i a es = ap (λ x. x ++ (apply_table a ∷ [])) (sets_filled s i es) ∙ two s (sets i es) (apply_table a ∷ [])

table_filled : (s : ℕ) (d : FunctionDecl) (es : List P4Expr) (n : Counts) → by_table d (map (expr_filled s) es) n ≡ lowered_filled s (by_table d es n)
table_filled s d es n =
    let r = by_table d es n in
    λ i. record { code = applied_filled s n.field n.app es i; made = r.made; expr = read_filled s d.result (past n.field d.params) i; next = r.next }

group_filled : (s : ℕ) (d : FunctionDecl) (es : List P4Expr) (n : Counts) → by_group d (map (expr_filled s) es) n ≡ lowered_filled s (by_group d es n)
group_filled s d es n =
    let r = by_group d es n in
    λ i. record { code = applied_filled s n.field n.app es i; made = r.made; expr = r.expr; next = r.next }

closed_filled : (s : ℕ) (d : FunctionDecl) (es : List P4Expr) (n : Counts) (r : Lowered) → closed d (map (expr_filled s) es) n (lowered_filled s r) ≡ lowered_filled s (closed d es n r)
closed_filled s d es n r =
    let all = closed d es n r in
    let last = set_meta r.next.field (kept d.result r.expr) ∷ [] in
    let value : set_meta r.next.field (kept d.result (expr_filled s r.expr)) ∷ [] ≡ code_filled s last = ap (λ e. set_meta r.next.field e ∷ []) (kept_filled s d.result r.expr) in
    let code : sets n.field (map (expr_filled s) es) ++ (code_filled s r.code ++ (set_meta r.next.field (kept d.result (expr_filled s r.expr)) ∷ [])) ≡ code_filled s (sets n.field es ++ (r.code ++ last)) =
    (λ i. sets_filled s n.field es i ++ (code_filled s r.code ++ value i)) ∙ three s (sets n.field es) r.code last in
    λ i. record { code = code i; made = all.made; expr = read_filled s d.result r.next.field i; next = all.next }

abbrev if_body : List HeaderDecl → List FunctionDecl → FunctionDecl → Option Expr → List P4Expr → Counts → Lowered
if_body headers earlier g body es n =
    elim body [
      | None ↦ by_table g es n
      | Some e ↦ closed g es n (lower_expr (callees headers earlier []) (variables_from n.field g.params) (after_args g n) e)
    ]

body_filled : (s : ℕ) (headers : List HeaderDecl) (earlier : List FunctionDecl) → CallsFill s (callees headers earlier []) → (g : FunctionDecl) (body : Option Expr) → if_some wide_expr body ≡ true
    → (es : List P4Expr) (n : Counts) → if_body headers earlier g body (map (expr_filled s) es) n ≡ lowered_filled s (if_body headers earlier g body es n)
body_filled s headers earlier h g None w es n = table_filled s g es n
body_filled s headers earlier h g (Some e) w es n =
    let c = callees headers earlier [] in
    let vars = variables_from n.field g.params in
    let r = lower_expr c vars (after_args g n) e in
    let is : r ≡ lowered_filled s r = ap (λ v. lower_expr c v (after_args g n) e) (sym (params_filled s n.field g.params)) ∙ expr_fills s c h vars (after_args g n) e w in
    ap (closed g (map (expr_filled s) es) n) is ∙ closed_filled s g es n r

either_filled : (s : ℕ) (b : Bool) (x y a z : Lowered) → x ≡ lowered_filled s a → y ≡ lowered_filled s z → (if b then x else y) ≡ lowered_filled s (if b then a else z)
either_filled s true x y a z h k = h
either_filled s false x y a z h k = k

abbrev AllWide : List FunctionDecl → Type 0
AllWide fs = list_all (λ (f : FunctionDecl). if_some wide_expr f.body) fs ≡ true

calls_fill : (s : ℕ) (headers : List HeaderDecl) (fs : List FunctionDecl) → AllWide fs → (f : List ℕ) (es : List P4Expr) (n : Counts)
    → lower_call headers fs f (map (expr_filled s) es) n ≡ lowered_filled s (lower_call headers fs f es n)
calls_fill s headers [] w f es n = refl
calls_fill s headers (g ∷ earlier) w f es n =
    let both = and_parts (if_some wide_expr g.body) (list_all (λ (f : FunctionDecl). if_some wide_expr f.body) earlier) w in
    either_filled s (same_name f g.name.text) _ _ (if_body headers earlier g g.body es n) (lower_call headers earlier f es n)
    (body_filled s headers earlier (λ k xs m. calls_fill s headers earlier both.1 k xs m) g g.body both.0 es n) (calls_fill s headers earlier both.1 f es n)

groups_fill : (s : ℕ) (fs : List FunctionDecl) (f : List ℕ) (es : List P4Expr) (n : Counts) → lower_group fs f (map (expr_filled s) es) n ≡ lowered_filled s (lower_group fs f es n)
groups_fill s [] f es n = refl
groups_fill s (g ∷ earlier) f es n = either_filled s (same_name f g.name.text) _ _ (by_group g es n) (lower_group earlier f es n) (group_filled s g es n) (groups_fill s earlier f es n)

-- ---- blocks

block_fills : (s : ℕ) (code : List P4Stmt) → block_of (code_filled s code) ≡ block_filled s (block_of code)
block_fills s [] = refl
block_fills s (x ∷ code) = ap (λ b. p_then (stmt_filled s x) b) (block_fills s code)

if_filled : (s : ℕ) (e : P4Expr) (first second : List P4Stmt) → if_stmt (expr_filled s e) (code_filled s first) (code_filled s second) ≡ stmt_filled s (if_stmt e first second)
if_filled s e first [] = ap (λ b. p_if (expr_filled s e) b) (block_fills s first)
if_filled s e first (x ∷ second) = λ i. p_if_else (expr_filled s e) (block_fills s first i) (block_fills s (x ∷ second) i)

second_filled : (s : ℕ) (es : List P4Expr) → second_of (map (expr_filled s) es) ≡ expr_filled s (second_of es)
second_filled s [] = refl
second_filled s (x ∷ []) = refl
second_filled s (x ∷ y ∷ es) = refl

port_filled : (s j : ℕ) (e : P4Expr) → for_port j (expr_filled s e) ≡ expr_filled s (for_port j e)
port_filled s j (p_lit w n) = by (w == 0)
  where
    by : (b : Bool) → for_port j (if b then p_lit 16 s else p_lit w n) ≡ (if b then p_lit 16 s else p_lit w n)
    by true = refl
    by false = refl
port_filled s j p_port = refl
port_filled s j e = refl

ports_filled : (s j : ℕ) (vars : List Variable) → ports_kept j (vars_filled s vars) ≡ vars_filled s (ports_kept j vars)
ports_filled s j [] = refl
ports_filled s j (v ∷ vars) = λ i. record { name = v.name; expr = port_filled s j v.expr i } ∷ ports_filled s j vars i

fork_filled : (s : ℕ) (x : List ℕ) (w : ℕ) (body : Block) (b : Bool) (vars : List Variable) (r : Lowered)
    → forked x w body b (vars_filled s vars) (lowered_filled s r) ≡ block_of_filled s (forked x w body b vars r)
fork_filled s x w body true vars r =
    let f = forked x w body true vars r in
    λ i. record {
      code = two s r.code (set_meta r.next.field p_port ∷ copy_code r.next.site r.expr) i;
      made = f.made;
      vars = vars_filled s vars;
      next = f.next;
      sites = record { number = r.next.site; vars = ports_filled s r.next.field vars i; x = x; width = w; body = body } ∷ [];
    }
fork_filled s x w body false vars r =
    let f = forked x w body false vars r in
    λ i. record { code = two s r.code (copy_code r.next.site r.expr) i; made = f.made; vars = vars_filled s vars; next = f.next; sites = map (site_filled s) f.sites }

before_wide : (e : Expr) (es : Exprs) → wide_expr e ≡ true → wide_exprs es ≡ true → wide_exprs (before_last_after e es) ≡ true
before_wide e no_exprs h k = refl
before_wide e (expr x es) h k =
    let both = and_parts (wide_expr x) (wide_exprs es) k in
    ap₂ (λ a b. a && b) h (before_wide x es both.0 both.1)

last_wide : (es : Exprs) → wide_exprs es ≡ true → wide_exprs (exprs_before_last es) ≡ true
last_wide no_exprs h = refl
last_wide (expr e es) h = let both = and_parts (wide_expr e) (wide_exprs es) h in before_wide e es both.0 both.1

fork_wide : (e : Expr) → wide_expr e ≡ true → wide_exprs (fork_args e) ≡ true
fork_wide (call at f es) h = last_wide es h
fork_wide e h = refl

effect_filled : (s : ℕ) (f : P4Expr → List P4Stmt) → ((e : P4Expr) → f (expr_filled s e) ≡ code_filled s (f e)) → (vars : List Variable) (r : Lowered)
    → effect f (vars_filled s vars) (lowered_filled s r) ≡ block_of_filled s (effect f vars r)
effect_filled s f h vars r =
    λ i. record { code = (ap (λ x. code_filled s r.code ++ x) (h r.expr) ∙ two s r.code (f r.expr)) i; made = r.made; vars = vars_filled s vars; next = r.next; sites = [] }

mutual
  stmt_fills : (s : ℕ) (headers : List HeaderDecl) (fs : List FunctionDecl) (port : List ℕ) → AllWide fs → (vars : List Variable) (n : Counts) (x : Stmt) → wide_stmt x ≡ true
      → lower_stmt (callees headers fs port) (vars_filled s vars) n x ≡ block_of_filled s (lower_stmt (callees headers fs port) vars n x)
  stmt_fills s headers fs port g vars n (let_ at x w e) h =
      let c = callees headers fs port in
      let r = lower_expr c vars n e in
      let all = let_code x.text w vars r in
      ap (let_code x.text w (vars_filled s vars)) (expr_fills s c (calls_fill s headers fs g) vars n e h)
      ∙ (λ i. record { code = two s r.code (set_meta r.next.field r.expr ∷ []) i; made = all.made; vars = vars_filled s all.vars; next = all.next; sites = [] })
  stmt_fills s headers fs port g vars n (set_field at k f e) h =
      let c = callees headers fs port in
      let to : P4Expr → List P4Stmt = λ v. set_header (header_place headers k.text) (field_place headers k.text f.text) v ∷ [] in
      ap (effect to (vars_filled s vars)) (expr_fills s c (calls_fill s headers fs g) vars n e h) ∙ effect_filled s to (λ v. refl) vars (lower_expr c vars n e)
  stmt_fills s headers fs port g vars n (if_ at e first second) h =
      let c = callees headers fs port in
      let one = and_parts (wide_expr e && wide_block first) (wide_block second) h in
      let both = and_parts (wide_expr e) (wide_block first) one.0 in
      let r = lower_expr c vars n e in
      let a = lower_block c vars r.next first in
      let b = lower_block c vars a.next second in
      let all = if_code vars r a b in
      ap (λ z. branches (vars_filled s vars) z (λ k. lower_block c (vars_filled s vars) k first) (λ k. lower_block c (vars_filled s vars) k second)) (expr_fills s c (calls_fill s headers fs g) vars n e both.0)
      ∙ ap (λ z. else_code (vars_filled s vars) (lowered_filled s r) z (λ k. lower_block c (vars_filled s vars) k second)) (blocks_fill s headers fs port g vars r.next first both.1)
      ∙ ap (if_code (vars_filled s vars) (lowered_filled s r) (block_of_filled s a)) (blocks_fill s headers fs port g vars a.next second one.1)
      ∙ (λ i. record {
        code = (ap (λ x. code_filled s r.code ++ (x ∷ [])) (if_filled s r.expr a.code b.code) ∙ two s r.code (if_stmt r.expr a.code b.code ∷ [])) i;
        made = all.made;
        vars = vars_filled s vars;
        next = all.next;
        sites = sym (map-append (site_filled s) a.sites b.sites) i;
      })
  stmt_fills s headers fs port g vars n (filter at e) h =
      let c = callees headers fs port in
      ap (effect filter_code (vars_filled s vars)) (expr_fills s c (calls_fill s headers fs g) vars n e h) ∙ effect_filled s filter_code (λ v. refl) vars (lower_expr c vars n e)
  stmt_fills s headers fs port g vars n (havoc_var at x w) h = refl
  stmt_fills s headers fs port g vars n (havoc_field at k f) h = refl
  stmt_fills s headers fs port g vars n (assume at e) h = refl
  stmt_fills s headers fs port g vars n (fork at x w e body) h =
      let c = callees headers fs port in
      let a = lower_exprs c vars n (fork_args e) in
      let parts = and_parts (wide_expr e) (wide_block body) h in
      let uses = in_block port body in
      ap (λ z. forked x.text w body uses (vars_filled s vars) (then_called z (lower_group fs (fork_function e)))) (exprs_fill s c (calls_fill s headers fs g) vars n (fork_args e) (fork_wide e parts.0))
      ∙ ap (λ z. forked x.text w body uses (vars_filled s vars) (called (all_filled s a) z)) (groups_fill s fs (fork_function e) a.exprs a.next)
      ∙ ap (forked x.text w body uses (vars_filled s vars)) (called_filled s a (lower_group fs (fork_function e) a.exprs a.next))
      ∙ fork_filled s x.text w body uses vars (called a (lower_group fs (fork_function e) a.exprs a.next))
  stmt_fills s headers fs port g vars n (send at r es) h =
      let c = callees headers fs port in
      let a = lower_exprs c vars n es in
      let code : code_filled s a.code ++ send_code (map (expr_filled s) a.exprs) ≡ code_filled s (a.code ++ send_code a.exprs) =
      ap (λ e. code_filled s a.code ++ (verdict 1 ∷ egress_port e ∷ p_return ∷ [])) (second_filled s a.exprs) ∙ two s a.code (send_code a.exprs) in
      ap (sent (vars_filled s vars)) (exprs_fill s c (calls_fill s headers fs g) vars n es h)
      ∙ (λ i. record { code = code i; made = a.made; vars = vars_filled s vars; next = a.next; sites = [] })

  blocks_fill : (s : ℕ) (headers : List HeaderDecl) (fs : List FunctionDecl) (port : List ℕ) → AllWide fs → (vars : List Variable) (n : Counts) (b : Block) → wide_block b ≡ true
      → lower_block (callees headers fs port) (vars_filled s vars) n b ≡ block_of_filled s (lower_block (callees headers fs port) vars n b)
  blocks_fill s headers fs port g vars n no_stmts h = refl
  blocks_fill s headers fs port g vars n (stmt x rest) h =
      let c = callees headers fs port in
      let both = and_parts (wide_stmt x) (wide_block rest) h in
      let a = lower_stmt c vars n x in
      let b = lower_block c a.vars a.next rest in
      ap (λ z. then_block z (λ more k. lower_block c more k rest)) (stmt_fills s headers fs port g vars n x both.0)
      ∙ ap (followed (block_of_filled s a)) (blocks_fill s headers fs port g a.vars a.next rest both.1)
      ∙ (λ i. record { code = two s a.code b.code i; made = a.made ++ b.made; vars = vars_filled s b.vars; next = b.next; sites = sym (map-append (site_filled s) a.sites b.sites) i })

-- ---- the blocks of forks

return_filled : (s : ℕ) (x : P4Stmt) → is_return (stmt_filled s x) ≡ is_return x
return_filled s p_return = refl
return_filled s x = refl

with_filled : (s : ℕ) (code : List P4Stmt) → with_return (code_filled s code) ≡ code_filled s (with_return code)
with_filled s [] = refl
with_filled s (x ∷ []) = ap (λ b. if b then stmt_filled s x ∷ [] else stmt_filled s x ∷ p_return ∷ []) (return_filled s x) ∙ by (is_return x)
  where
    by : (b : Bool) → (if b then stmt_filled s x ∷ [] else stmt_filled s x ∷ p_return ∷ []) ≡ code_filled s (if b then x ∷ [] else x ∷ p_return ∷ [])
    by true = refl
    by false = refl
with_filled s (x ∷ y ∷ ys) = ap (λ code. stmt_filled s x ∷ code) (with_filled s (y ∷ ys))

-- the bodies of forks that were kept are wide
abbrev SitesWide : List Site → Type 0
SitesWide [] = Unit {0}
SitesWide (x ∷ xs) = (wide_block x.body ≡ true) × SitesWide xs

wide_more : (xs ys : List Site) → SitesWide xs → SitesWide ys → SitesWide (xs ++ ys)
wide_more [] ys h k = k
wide_more (x ∷ xs) ys h k = (h.0, wide_more xs ys h.1 k)

fork_sites : (x : List ℕ) (w : ℕ) (body : Block) (b : Bool) (vars : List Variable) (r : Lowered) → wide_block body ≡ true → SitesWide (forked x w body b vars r).sites
fork_sites x w body true vars r h = (h, tt)
fork_sites x w body false vars r h = (h, tt)

mutual
  stmt_sites : (c : Callees) (vars : List Variable) (n : Counts) (x : Stmt) → wide_stmt x ≡ true → SitesWide (lower_stmt c vars n x).sites
  stmt_sites c vars n (let_ at x w e) h = tt
  stmt_sites c vars n (set_field at k f e) h = tt
  stmt_sites c vars n (if_ at e first second) h =
      let one = and_parts (wide_expr e && wide_block first) (wide_block second) h in
      let both = and_parts (wide_expr e) (wide_block first) one.0 in
      let k = (lower_expr c vars n e).next in
      let a = lower_block c vars k first in
      wide_more a.sites (lower_block c vars a.next second).sites (block_sites c vars k first both.1) (block_sites c vars a.next second one.1)
  stmt_sites c vars n (filter at e) h = tt
  stmt_sites c vars n (havoc_var at x w) h = tt
  stmt_sites c vars n (havoc_field at k f) h = tt
  stmt_sites c vars n (assume at e) h = tt
  stmt_sites c vars n (fork at x w e body) h = fork_sites x.text w body (in_block c.port body) vars _ (and_parts (wide_expr e) (wide_block body) h).1
  stmt_sites c vars n (send at r es) h = tt

  block_sites : (c : Callees) (vars : List Variable) (n : Counts) (b : Block) → wide_block b ≡ true → SitesWide (lower_block c vars n b).sites
  block_sites c vars n no_stmts h = tt
  block_sites c vars n (stmt x rest) h =
      let both = and_parts (wide_stmt x) (wide_block rest) h in
      let a = lower_stmt c vars n x in
      wide_more a.sites (lower_block c a.vars a.next rest).sites (stmt_sites c vars n x both.0) (block_sites c a.vars a.next rest both.1)

site_fills : (s : ℕ) (headers : List HeaderDecl) (fs : List FunctionDecl) (port : List ℕ) → AllWide fs → (n : Counts) (x : Site) → wide_block x.body ≡ true
    → lower_site (callees headers fs port) n (site_filled s x) ≡ sites_filled s (lower_site (callees headers fs port) n x)
site_fills s headers fs port g n x h =
    let c = callees headers fs port in
    let vars : List Variable = record { name = x.x; expr = p_meta n.field } ∷ x.vars in
    let m : Counts = record { app = n.app; var = suc n.var; field = suc n.field; site = n.site } in
    let b = lower_block c vars m x.body in
    let all = site_code x n b in
    ap (site_code x n) (blocks_fill s headers fs port g vars m x.body h)
    ∙ (λ i. record {
      code = p_if (p_binary equal (p_meta 0) (p_lit 8 x.number))
          ((ap (λ code. block_of (set_meta n.field (p_slice p_rid (x.width - 1) 0) ∷ code)) (with_filled s b.code) ∙ block_fills s (set_meta n.field (p_slice p_rid (x.width - 1) 0) ∷ with_return b.code)) i) ∷ [];
      made = all.made;
      next = all.next;
    })

sites_fill : (s : ℕ) (headers : List HeaderDecl) (fs : List FunctionDecl) (port : List ℕ) → AllWide fs → (n : Counts) (xs : List Site) → SitesWide xs
    → lower_sites (callees headers fs port) n (map (site_filled s) xs) ≡ sites_filled s (lower_sites (callees headers fs port) n xs)
sites_fill s headers fs port g n [] h = refl
sites_fill s headers fs port g n (x ∷ xs) h =
    let c = callees headers fs port in
    let a = lower_site c n x in
    let b = lower_sites c a.next xs in
    ap (λ z. more_sites z (lower_sites c z.next (map (site_filled s) xs))) (site_fills s headers fs port g n x h.0)
    ∙ ap (more_sites (sites_filled s a)) (sites_fill s headers fs port g a.next xs h.1)
    ∙ (λ i. record { code = two s a.code b.code i; made = a.made ++ b.made; next = b.next })

-- ---- programs

role_filled : (r : SwitchRole) → HasWideLiterals r → (s : ℕ) → role_lowered r s ≡ block_of_filled s (open_lowered r)
role_filled r w s = blocks_fill s r.headers r.functions r.port w.functions (open_vars r) (record { app = 0; var = 0; field = 1; site = 1 }) r.body w.body

egress_filled : (r : SwitchRole) → HasWideLiterals r → (s : ℕ) → egress_lowered r s ≡ sites_filled s (open_egress r)
egress_filled r w s =
    let c = callees r.headers r.functions r.port in
    ap (λ (b : LoweredBlock). lower_sites c b.next b.sites) (role_filled r w s)
    ∙ sites_fill s r.headers r.functions r.port w.functions (open_lowered r).next (open_lowered r).sites
    (block_sites c (open_vars r) (record { app = 0; var = 0; field = 1; site = 1 }) r.body w.body)

pub ingress_alike : (r : SwitchRole) → HasWideLiterals r → (s : ℕ) → (role_lowered r s).made ≡ (open_lowered r).made
ingress_alike r w s = ap (λ (b : LoweredBlock). b.made) (role_filled r w s)

pub made_alike : (r : SwitchRole) → HasWideLiterals r → (s : ℕ) → switch_made r s ≡ open_made r
made_alike r w s = λ i. (role_filled r w s i).made ++ (egress_filled r w s i).made

-- a program with what was lowered of a role
abbrev with_lowered : SwitchRole → LoweredBlock → LoweredSites → Program
with_lowered r a b = record {
  headers = map p4_header r.headers;
  meta = record { name = codes "site"; width = 8 } ∷ fields_in (a.made ++ b.made);
  ingress = record { tables = tables_in a.made; body = block_of a.code };
  egress = record { tables = tables_in b.made; body = block_of b.code };
}

pub program_filled : (r : SwitchRole) → HasWideLiterals r → (s : ℕ) → filled s (open_program r) ≡ switch_program r s
program_filled r w s =
    let a = open_lowered r in
    let b = open_egress r in
    let p = open_program r in
    (λ i. record {
      headers = p.headers;
      meta = p.meta;
      ingress = record { tables = p.ingress.tables; body = sym (block_fills s a.code) i };
      egress = record { tables = p.egress.tables; body = sym (block_fills s b.code) i };
    })
    ∙ (λ i. with_lowered r (sym (role_filled r w s) i) (sym (egress_filled r w s) i))
