-- What is made by a lowering: part by part, the tables hold functions of the design.
use Rattle.std.proofs.Common.{◌≡◌, ℕ, suc, Bool, true, false, cond, List, [], ◌∷◌, ◌++◌, Option, Some, None, refl, sym, ap, ◌∙◌}
use Rattle.cocoon_num.specs.Lists.{is_one_of}
use Rattle.cocoon_num.specs.Names.{same_name}
use Rattle.cocoon_num.specs.Tree.{Param, Expr, name, Exprs, FunctionDecl, HeaderDecl, Stmt, Block, field, lit, true_or_false, call, unary, binary, slice, pick, no_exprs, expr, let_, set_field, if_, filter, havoc_var, havoc_field, assume, fork, send, no_stmts, stmt, Design}
use Rattle.cocoon_types.specs.DefsRules.{fork_calls, runtime_named}
use Rattle.declarations.proofs.NameFacts.{same-true}
use Rattle.lowering.specs.Log.{FieldsAt, Placed}
use Rattle.lowering.specs.Lower.{Counts, FieldName, Made, a_field, a_table, a_group, Variable, Lowered, Callees, callees, lower_expr, lower_exprs, lower_call, lower_group, by_table, by_group, closed, fields_from, numbers_from, params_before_last, key_name, var_name, variables_from, after_args, kind_width, then_called}
use Rattle.lowering.specs.LowerBlock.{Site, forked, in_block, fork_args, fork_function, lower_stmt, lower_block}
use Rattle.lowering.specs.LowerSites.{LoweredSites, lower_site, lower_sites}
use Rattle.lowering_correct.specs.Logs.{AllOf, KeysAre}
use Rattle.p4_ir.specs.P4Tree.{P4Expr, p_meta}

-- ---- parts of a log

fields-apart : (widths : List ℕ) (xs ys : List Made) → FieldsAt widths (xs ++ ys) → FieldsAt widths xs × FieldsAt widths ys
fields-apart widths [] ys h = (tt, h)
fields-apart widths (a_field x i w ∷ xs) ys h = let both = fields-apart widths xs ys h.1 in ((h.0, both.0), both.1)
fields-apart widths (a_table t f ps ∷ xs) ys h = fields-apart widths xs ys h
fields-apart widths (a_group t f ps ∷ xs) ys h = fields-apart widths xs ys h

all-both : (d : Design) (widths : List ℕ) (xs ys : List Made) → AllOf d widths xs → AllOf d widths ys → AllOf d widths (xs ++ ys)
all-both d widths [] ys h k = k
all-both d widths (x ∷ xs) ys h k = (h.0, all-both d widths xs ys h.1 k)

-- where the fields are at their numbers, tables hold functions of the design
abbrev pub Fine : Design → List ℕ → List Made → Type 0
Fine d widths ms = FieldsAt widths ms → AllOf d widths ms

pub both-fine : (d : Design) (widths : List ℕ) (xs ys : List Made) → Fine d widths xs → Fine d widths ys → Fine d widths (xs ++ ys)
both-fine d widths xs ys h k at = let both = fields-apart widths xs ys at in all-both d widths xs ys (h both.0) (k both.1)

field-fine : (d : Design) (widths : List ℕ) (x : FieldName) (i w : ℕ) → Fine d widths (a_field x i w ∷ [])
field-fine d widths x i w at = (tt, tt)

keys-fine : (d : Design) (widths : List ℕ) (called : ℕ → FieldName) (j i : ℕ) (ps : List Param) → Fine d widths (fields_from called j i ps)
keys-fine d widths called j i [] at = tt
keys-fine d widths called j i (p ∷ ps) at = (tt, keys-fine d widths called (suc j) (suc i) ps at.1)

-- fields with the widths of parameters are keys of them
keys-are : (widths : List ℕ) (called : ℕ → FieldName) (j i : ℕ) (ps : List Param) → FieldsAt widths (fields_from called j i ps) → KeysAre widths (numbers_from i ps) ps
keys-are widths called j i [] at = tt
keys-are widths called j i (p ∷ ps) at = (at.0, keys-are widths called (suc j) (suc i) ps at.1)

-- ---- calls

-- the function stands under a fork
pub record Forked (d : Design) (f : List ℕ) : Type 0 where
  pub function : FunctionDecl
  pub named : runtime_named d f ≡ Some function
  pub forked : is_one_of (fork_calls d) f ≡ true

-- the function is the one of its name
pub record IsNamed (d : Design) (g : FunctionDecl) : Type 0 where
  pub runs : g.body ≡ None → runtime_named d g.name.text ≡ Some g
  pub only : (h : FunctionDecl) → runtime_named d g.name.text ≡ Some h → h ≡ g

abbrev pub AreNamed : Design → List FunctionDecl → Type 0
AreNamed d [] = Unit {0}
AreNamed d (g ∷ gs) = IsNamed d g × AreNamed d gs

abbrev pub CallsFine : Design → List ℕ → Callees → Type 0
CallsFine d widths c = ((f : List ℕ) (es : List P4Expr) (n : Counts) → Fine d widths (c.call f es n).made) × ((f : List ℕ) (es : List P4Expr) (n : Counts) → Forked d f → Fine d widths (c.group f es n).made)

mutual
  pub expr-fine : (d : Design) (widths : List ℕ) (c : Callees) → CallsFine d widths c → (e : Expr) (vars : List Variable) (n : Counts) → Fine d widths (lower_expr c vars n e).made
  expr-fine d widths c g (name p x) vars n = λ _. tt
  expr-fine d widths c g (field p h f) vars n = λ _. tt
  expr-fine d widths c g (lit p w x) vars n = λ _. tt
  expr-fine d widths c g (true_or_false p b) vars n = λ _. tt
  expr-fine d widths c g (call p f es) vars n =
      both-fine d widths (lower_exprs c vars n es).made _ (exprs-fine d widths c g es vars n) (g.0 f.text (lower_exprs c vars n es).exprs (lower_exprs c vars n es).next)
  expr-fine d widths c g (unary p op a) vars n = expr-fine d widths c g a vars n
  expr-fine d widths c g (binary p op a b) vars n = both-fine d widths (lower_expr c vars n a).made _ (expr-fine d widths c g a vars n) (expr-fine d widths c g b vars (lower_expr c vars n a).next)
  expr-fine d widths c g (slice p a hi lo) vars n = expr-fine d widths c g a vars n
  expr-fine d widths c g (pick p e a b) vars n =
      let k : Counts = (lower_expr c vars n e).next in
      both-fine d widths (lower_expr c vars n e).made ((lower_expr c vars k a).made ++ (lower_expr c vars (lower_expr c vars k a).next b).made) (expr-fine d widths c g e vars n)
      (both-fine d widths (lower_expr c vars k a).made (lower_expr c vars (lower_expr c vars k a).next b).made (expr-fine d widths c g a vars k) (expr-fine d widths c g b vars (lower_expr c vars k a).next))

  pub exprs-fine : (d : Design) (widths : List ℕ) (c : Callees) → CallsFine d widths c → (es : Exprs) (vars : List Variable) (n : Counts) → Fine d widths (lower_exprs c vars n es).made
  exprs-fine d widths c g no_exprs vars n = λ _. tt
  exprs-fine d widths c g (expr e es) vars n = both-fine d widths (lower_expr c vars n e).made _ (expr-fine d widths c g e vars n) (exprs-fine d widths c g es vars (lower_expr c vars n e).next)

either-fine : (d : Design) (widths : List ℕ) (b : Bool) (X Y : Lowered) → (b ≡ true → Fine d widths X.made) → Fine d widths Y.made → Fine d widths (cond b X Y).made
either-fine d widths true X Y h k = h refl
either-fine d widths false X Y h k = k

table-fine : (d : Design) (widths : List ℕ) (g : FunctionDecl) (es : List P4Expr) (n : Counts) → runtime_named d g.name.text ≡ Some g → Fine d widths (by_table g es n).made
table-fine d widths g es n named at =
    let both = fields-apart widths (fields_from (key_name n.app) 0 n.field g.params) _ at in
    all-both d widths (fields_from (key_name n.app) 0 n.field g.params) _ (keys-fine d widths (key_name n.app) 0 n.field g.params both.0)
    (tt, (record { function = g; named = named; params = refl; ternary = refl; keys = keys-are widths (key_name n.app) 0 n.field g.params both.0; result = both.1.0 }, tt))

group-fine : (d : Design) (widths : List ℕ) (g : FunctionDecl) (es : List P4Expr) (n : Counts) → runtime_named d g.name.text ≡ Some g → is_one_of (fork_calls d) g.name.text ≡ true → Fine d widths (by_group g es n).made
group-fine d widths g es n named stands at =
    let both = fields-apart widths (fields_from (key_name n.app) 0 n.field (params_before_last g.params)) _ at in
    all-both d widths (fields_from (key_name n.app) 0 n.field (params_before_last g.params)) _ (keys-fine d widths (key_name n.app) 0 n.field (params_before_last g.params) both.0)
    (tt, (record { function = g; named = named; forked = stands; params = refl; keys = keys-are widths (key_name n.app) 0 n.field (params_before_last g.params) both.0; result = both.1.0 }, tt))

abbrev lowered-by : List HeaderDecl → List FunctionDecl → FunctionDecl → List P4Expr → Counts → Option Expr → Lowered
lowered-by headers earlier g es n body = elim body [
  | None ↦ by_table g es n
  | Some e ↦ closed g es n (lower_expr (record { headers = headers; call = lower_call headers earlier; group = lower_group earlier; port = [] }) (variables_from n.field g.params) (after_args g n) e)
]

body-fine : (d : Design) (widths : List ℕ) (headers : List HeaderDecl) (earlier : List FunctionDecl) → CallsFine d widths (callees headers earlier []) → (g : FunctionDecl) → (g.body ≡ None → runtime_named d g.name.text ≡ Some g)
    → (es : List P4Expr) (n : Counts) (body : Option Expr) → g.body ≡ body → Fine d widths (lowered-by headers earlier g es n body).made
body-fine d widths headers earlier c g named es n None e = table-fine d widths g es n (named e)
body-fine d widths headers earlier c g named es n (Some b) e =
    let q : Lowered = lower_expr (callees headers earlier []) (variables_from n.field g.params) (after_args g n) b in
    both-fine d widths (fields_from var_name n.var n.field g.params) _ (keys-fine d widths var_name n.var n.field g.params)
    (both-fine d widths q.made (a_field (var_name q.next.var) q.next.field (kind_width g.result) ∷ []) (expr-fine d widths (callees headers earlier []) c b (variables_from n.field g.params) (after_args g n))
    (field-fine d widths (var_name q.next.var) q.next.field (kind_width g.result)))

forked-fine : (d : Design) (widths : List ℕ) (g : FunctionDecl) (f : List ℕ) (es : List P4Expr) (n : Counts) → IsNamed d g → Forked d f → same_name f g.name.text ≡ true → Fine d widths (by_group g es n).made
forked-fine d widths g f es n named stands same =
    let is : f ≡ g.name.text = same-true f g.name.text same in
    let found : runtime_named d g.name.text ≡ Some stands.function = ap (runtime_named d) (sym is) ∙ stands.named in
    group-fine d widths g es n (found ∙ ap Some (named.only stands.function found)) (ap (is_one_of (fork_calls d)) (sym is) ∙ stands.forked)

groups-fine : (d : Design) (widths : List ℕ) (fs : List FunctionDecl) → AreNamed d fs → (f : List ℕ) (es : List P4Expr) (n : Counts) → Forked d f → Fine d widths (lower_group fs f es n).made
groups-fine d widths [] named f es n stands = λ _. tt
groups-fine d widths (g ∷ earlier) named f es n stands =
    either-fine d widths (same_name f g.name.text) (by_group g es n) (lower_group earlier f es n) (forked-fine d widths g f es n named.0 stands) (groups-fine d widths earlier named.1 f es n stands)

calls-fine : (d : Design) (widths : List ℕ) (headers : List HeaderDecl) (fs : List FunctionDecl) → AreNamed d fs → (f : List ℕ) (es : List P4Expr) (n : Counts) → Fine d widths (lower_call headers fs f es n).made
calls-fine d widths headers [] named f es n = λ _. tt
calls-fine d widths headers (g ∷ earlier) named f es n =
    either-fine d widths (same_name f g.name.text) (lowered-by headers earlier g es n g.body) (lower_call headers earlier f es n)
    (λ _. body-fine d widths headers earlier (calls-fine d widths headers earlier named.1, groups-fine d widths earlier named.1) g named.0.runs es n g.body refl)
    (calls-fine d widths headers earlier named.1 f es n)

pub callees-fine : (d : Design) (widths : List ℕ) (headers : List HeaderDecl) (fs : List FunctionDecl) (port : List ℕ) → AreNamed d fs → CallsFine d widths (callees headers fs port)
callees-fine d widths headers fs port named = (calls-fine d widths headers fs named, groups-fine d widths fs named)

-- ---- statements

abbrev mutual
  -- the functions of all forks in a statement are those of the design's forks
  pub StmtForks : Design → Stmt → Type 0
  StmtForks d (let_ p x w e) = Unit {0}
  StmtForks d (set_field p h f e) = Unit {0}
  StmtForks d (if_ p e first second) = BlockForks d first × BlockForks d second
  StmtForks d (filter p e) = Unit {0}
  StmtForks d (havoc_var p x w) = Unit {0}
  StmtForks d (havoc_field p h f) = Unit {0}
  StmtForks d (assume p e) = Unit {0}
  StmtForks d (fork p x w e body) = Forked d (fork_function e) × BlockForks d body
  StmtForks d (send p r es) = Unit {0}

  pub BlockForks : Design → Block → Type 0
  BlockForks d no_stmts = Unit {0}
  BlockForks d (stmt s rest) = StmtForks d s × BlockForks d rest

-- and so in the blocks that are kept aside
abbrev pub SiteForks : Design → List Site → Type 0
SiteForks d [] = Unit {0}
SiteForks d (x ∷ xs) = BlockForks d x.body × SiteForks d xs

sites-both : (d : Design) (xs ys : List Site) → SiteForks d xs → SiteForks d ys → SiteForks d (xs ++ ys)
sites-both d [] ys h k = k
sites-both d (x ∷ xs) ys h k = (h.0, sites-both d xs ys h.1 k)

fork-fine : (d : Design) (widths : List ℕ) (saves : Bool) (x : List ℕ) (w : ℕ) (body : Block) (vars : List Variable) (r : Lowered) → Fine d widths r.made → Fine d widths (forked x w body saves vars r).made
fork-fine d widths true x w body vars r h = both-fine d widths r.made (a_field (var_name r.next.var) r.next.field 16 ∷ []) h (field-fine d widths (var_name r.next.var) r.next.field 16)
fork-fine d widths false x w body vars r h = h

fork-sites : (d : Design) (saves : Bool) (x : List ℕ) (w : ℕ) (body : Block) (vars : List Variable) (r : Lowered) → BlockForks d body → SiteForks d (forked x w body saves vars r).sites
fork-sites d true x w body vars r h = (h, tt)
fork-sites d false x w body vars r h = (h, tt)

mutual
  stmt-fine : (d : Design) (widths : List ℕ) (c : Callees) → CallsFine d widths c → (s : Stmt) → StmtForks d s → (vars : List Variable) (n : Counts) → Fine d widths (lower_stmt c vars n s).made
  stmt-fine d widths c g (let_ p x w e) h vars n =
      let q : Lowered = lower_expr c vars n e in
      both-fine d widths q.made (a_field (var_name q.next.var) q.next.field w ∷ []) (expr-fine d widths c g e vars n) (field-fine d widths (var_name q.next.var) q.next.field w)
  stmt-fine d widths c g (set_field p f k e) h vars n = expr-fine d widths c g e vars n
  stmt-fine d widths c g (if_ p e first second) h vars n =
      let k : Counts = (lower_expr c vars n e).next in
      both-fine d widths (lower_expr c vars n e).made ((lower_block c vars k first).made ++ (lower_block c vars (lower_block c vars k first).next second).made) (expr-fine d widths c g e vars n)
      (both-fine d widths (lower_block c vars k first).made (lower_block c vars (lower_block c vars k first).next second).made (block-fine d widths c g first h.0 vars k)
      (block-fine d widths c g second h.1 vars (lower_block c vars k first).next))
  stmt-fine d widths c g (filter p e) h vars n = expr-fine d widths c g e vars n
  stmt-fine d widths c g (havoc_var p x w) h vars n = λ _. tt
  stmt-fine d widths c g (havoc_field p f k) h vars n = λ _. tt
  stmt-fine d widths c g (assume p e) h vars n = λ _. tt
  stmt-fine d widths c g (fork p x w e body) h vars n =
      fork-fine d widths (in_block c.port body) x.text w body vars (then_called (lower_exprs c vars n (fork_args e)) (c.group (fork_function e)))
      (both-fine d widths (lower_exprs c vars n (fork_args e)).made _ (exprs-fine d widths c g (fork_args e) vars n) (g.1 (fork_function e) (lower_exprs c vars n (fork_args e)).exprs (lower_exprs c vars n (fork_args e)).next h.0))
  stmt-fine d widths c g (send p r es) h vars n = exprs-fine d widths c g es vars n

  pub block-fine : (d : Design) (widths : List ℕ) (c : Callees) → CallsFine d widths c → (b : Block) → BlockForks d b → (vars : List Variable) (n : Counts) → Fine d widths (lower_block c vars n b).made
  block-fine d widths c g no_stmts h vars n = λ _. tt
  block-fine d widths c g (stmt s rest) h vars n =
      both-fine d widths (lower_stmt c vars n s).made _ (stmt-fine d widths c g s h.0 vars n) (block-fine d widths c g rest h.1 (lower_stmt c vars n s).vars (lower_stmt c vars n s).next)

mutual
  stmt-sites : (d : Design) (c : Callees) (s : Stmt) → StmtForks d s → (vars : List Variable) (n : Counts) → SiteForks d (lower_stmt c vars n s).sites
  stmt-sites d c (let_ p x w e) h vars n = tt
  stmt-sites d c (set_field p f k e) h vars n = tt
  stmt-sites d c (if_ p e first second) h vars n =
      let k : Counts = (lower_expr c vars n e).next in
      sites-both d (lower_block c vars k first).sites (lower_block c vars (lower_block c vars k first).next second).sites (block-sites d c first h.0 vars k) (block-sites d c second h.1 vars (lower_block c vars k first).next)
  stmt-sites d c (filter p e) h vars n = tt
  stmt-sites d c (havoc_var p x w) h vars n = tt
  stmt-sites d c (havoc_field p f k) h vars n = tt
  stmt-sites d c (assume p e) h vars n = tt
  stmt-sites d c (fork p x w e body) h vars n = fork-sites d (in_block c.port body) x.text w body vars (then_called (lower_exprs c vars n (fork_args e)) (c.group (fork_function e))) h.1
  stmt-sites d c (send p r es) h vars n = tt

  pub block-sites : (d : Design) (c : Callees) (b : Block) → BlockForks d b → (vars : List Variable) (n : Counts) → SiteForks d (lower_block c vars n b).sites
  block-sites d c no_stmts h vars n = tt
  block-sites d c (stmt s rest) h vars n =
      sites-both d (lower_stmt c vars n s).sites _ (stmt-sites d c s h.0 vars n) (block-sites d c rest h.1 (lower_stmt c vars n s).vars (lower_stmt c vars n s).next)

-- the blocks of forks
pub sites-fine : (d : Design) (widths : List ℕ) (c : Callees) → CallsFine d widths c → (xs : List Site) → SiteForks d xs → (n : Counts) → Fine d widths (lower_sites c n xs).made
sites-fine d widths c g [] h n = λ _. tt
sites-fine d widths c g (x ∷ xs) h n =
    let first : LoweredSites = lower_site c n x in
    both-fine d widths first.made (lower_sites c first.next xs).made
    (both-fine d widths (a_field (var_name n.var) n.field x.width ∷ []) _ (field-fine d widths (var_name n.var) n.field x.width)
    (block-fine d widths c g x.body h.0 (record { name = x.x; expr = p_meta n.field } ∷ x.vars) (record { app = n.app; var = suc n.var; field = suc n.field; site = n.site })))
    (sites-fine d widths c g xs h.1 first.next)

pub placed-both : (i a j b k c : ℕ) (xs ys : List Made) → Placed i a xs j b → Placed j b ys k c → Placed i a (xs ++ ys) k c
placed-both i a j b k c [] ys h g = rw (h.0, h.1) g
placed-both i a j b k c (a_field x m w ∷ xs) ys h g = (h.0, placed-both (suc i) a j b k c xs ys h.1 g)
placed-both i a j b k c (a_table t f ps ∷ xs) ys h g = (h.0, placed-both i (suc a) j b k c xs ys h.1 g)
placed-both i a j b k c (a_group t f ps ∷ xs) ys h g = (h.0, placed-both i (suc a) j b k c xs ys h.1 g)
