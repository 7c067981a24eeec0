-- The code of a body has as many tables and forks as are counted.
use Rattle.std.proofs.Common.{◌≡◌, ℕ, suc, ◌+◌, ◌==◌, Bool, true, false, List, [], ◌∷◌, ◌++◌, length, if◌then◌else◌, Option, Some, None, refl, sym, ap, ◌∙◌, arith}
use Rattle.std.proofs.lemmas.List.{length-append}
use Rattle.cocoon_num.specs.Names.{same_name}
use Rattle.cocoon_num.specs.Tree.{Param, Expr, name, field, lit, true_or_false, call, unary, binary, slice, pick, Exprs, no_exprs, expr, FunctionDecl, HeaderDecl, Stmt, Block, let_, set_field, if_, filter, havoc_var, havoc_field, assume, fork, send, no_stmts, stmt}
use Rattle.p4_ir.specs.P4Tree.{P4Expr}
use Rattle.lowering.specs.Log.{tables_in}
use Rattle.lowering.specs.Lower.{Callees, Counts, FieldName, Lowered, Made, Variable, a_field, a_group, a_table, after_args, by_group, by_table, callees, closed, fields_from, params_before_last, key_name, var_name, lower_call, lower_expr, lower_exprs, lower_group, variables_from}
use Rattle.lowering.specs.LowerBlock.{Site, forked, fork_args, fork_function, in_block, lower_block, lower_stmt}
use Rattle.lowering.specs.LowerSites.{lower_site, lower_sites}
use Rattle.lowering.specs.Counting.{all_tables, block_count, call_count, closed_count, expr_count, exprs_count, forks, group_count, printed_part, site_count, stmt_forks, stmt_site_count, stmt_count}

abbrev count : List Made → ℕ
count ms = length (tables_in ms)

count_more : (ms more : List Made) → count (ms ++ more) ≡ count ms + count more
count_more [] more = omega arith
count_more (a_field x i w ∷ ms) more = count_more ms more
count_more (a_table t f ps ∷ ms) more = let r = count_more ms more in omega arith
count_more (a_group t f ps ∷ ms) more = let r = count_more ms more in omega arith

count_three : (a b c : List Made) (k m n : ℕ) → count a ≡ k → count b ≡ m → count c ≡ n → count (a ++ (b ++ c)) ≡ k + (m + n)
count_three a b c k m n ha hb hc = count_more a (b ++ c) ∙ ap (λ x. x + count (b ++ c)) ha ∙ ap (λ x. k + x) (count_more b c ∙ ap (λ x. x + count c) hb ∙ ap (λ x. m + x) hc)

count_two : (a b : List Made) (k m : ℕ) → count a ≡ k → count b ≡ m → count (a ++ b) ≡ k + m
count_two a b k m ha hb = count_more a b ∙ ap (λ x. x + count b) ha ∙ ap (λ x. k + x) hb

no_tables : (named : ℕ → FieldName) (j i : ℕ) (ps : List Param) (more : List Made) → count (fields_from named j i ps ++ more) ≡ count more
no_tables named j i [] more = refl
no_tables named j i (p ∷ ps) more = no_tables named (suc j) (suc i) ps more

-- ---- expressions

no_parts : (m n : ℕ) → m ≡ n → m ≡ 0 + n
no_parts m n h = h ∙ omega arith

no_call : (params m n : ℕ) → m ≡ n → m ≡ closed_count 0 params n
no_call params m n h = h ∙ omega arith

never_printed : (called : ℕ) → printed_part 0 called ≡ 0
never_printed n = by (n == 0)
  where
    by : (b : Bool) → ◌≡◌ {A = ℕ} (if b then 0 else 0) 0
    by true = refl
    by false = refl

abbrev Calls : Callees → (List ℕ → ℕ) → Type 0
Calls c calls = (f : List ℕ) (es : List P4Expr) (n : Counts) → count (c.call f es n).made ≡ calls f

mutual
  expr_counted : (c : Callees) (calls : List ℕ → ℕ) → Calls c calls → (vars : List Variable) (n : Counts) (e : Expr) → count (lower_expr c vars n e).made ≡ expr_count 0 calls e
  expr_counted c calls h vars n (name at x) = refl
  expr_counted c calls h vars n (field at hd f) = refl
  expr_counted c calls h vars n (lit at w x) = refl
  expr_counted c calls h vars n (true_or_false at b) = refl
  expr_counted c calls h vars n (call at f es) =
      count_two (lower_exprs c vars n es).made (c.call f.text (lower_exprs c vars n es).exprs (lower_exprs c vars n es).next).made (exprs_count 0 calls es) (calls f.text)
      (exprs_counted c calls h vars n es) (h f.text (lower_exprs c vars n es).exprs (lower_exprs c vars n es).next)
      ∙ ap (λ k. exprs_count k calls es + calls f.text) (sym (never_printed (calls f.text)))
  expr_counted c calls h vars n (unary at op a) = no_parts _ _ (expr_counted c calls h vars n a)
  expr_counted c calls h vars n (binary at op a b) =
      let k = (lower_expr c vars n a).next in
      no_parts _ _ (count_two (lower_expr c vars n a).made (lower_expr c vars k b).made (expr_count 0 calls a) (expr_count 0 calls b) (expr_counted c calls h vars n a) (expr_counted c calls h vars k b))
  expr_counted c calls h vars n (slice at a high low) = no_parts _ _ (expr_counted c calls h vars n a)
  expr_counted c calls h vars n (pick at e a b) =
      let k = (lower_expr c vars n e).next in
      let m = (lower_expr c vars k a).next in
      no_parts _ _ (count_three (lower_expr c vars n e).made (lower_expr c vars k a).made (lower_expr c vars m b).made (expr_count 0 calls e) (expr_count 0 calls a) (expr_count 0 calls b)
      (expr_counted c calls h vars n e) (expr_counted c calls h vars k a) (expr_counted c calls h vars m b))

  exprs_counted : (c : Callees) (calls : List ℕ → ℕ) → Calls c calls → (vars : List Variable) (n : Counts) (es : Exprs) → count (lower_exprs c vars n es).made ≡ exprs_count 0 calls es
  exprs_counted c calls h vars n no_exprs = refl
  exprs_counted c calls h vars n (expr e es) =
      let k = (lower_expr c vars n e).next in
      no_parts _ _ (count_two (lower_expr c vars n e).made (lower_exprs c vars k es).made (expr_count 0 calls e) (exprs_count 0 calls es) (expr_counted c calls h vars n e) (exprs_counted c calls h vars k es))

-- ---- calls

abbrev if_body : List HeaderDecl → List FunctionDecl → FunctionDecl → Option Expr → List P4Expr → Counts → Lowered
if_body headers earlier d body es n =
    elim body [
      | None ↦ by_table d es n
      | Some e ↦ closed d es n (lower_expr (callees headers earlier []) (variables_from n.field d.params) (after_args d n) e)
    ]

body_counted : (headers : List HeaderDecl) (earlier : List FunctionDecl) (d : FunctionDecl) (body : Option Expr) (es : List P4Expr) (n : Counts) → Calls (callees headers earlier []) (call_count 0 earlier)
    → count (if_body headers earlier d body es n).made ≡ elim body [ None ↦ 1 | Some e ↦ closed_count 0 (length d.params) (expr_count 0 (call_count 0 earlier) e) ]
body_counted headers earlier d None es n h = no_tables (key_name n.app) 0 n.field d.params _
body_counted headers earlier d (Some e) es n h =
    let r = lower_expr (callees headers earlier []) (variables_from n.field d.params) (after_args d n) e in
    no_tables var_name n.var n.field d.params _ ∙ count_more r.made (a_field _ _ _ ∷ []) ∙ omega arith
    ∙ no_call (length d.params) _ _ (expr_counted (callees headers earlier []) (call_count 0 earlier) h (variables_from n.field d.params) (after_args d n) e)

if_counted : (b : Bool) (x y : Lowered) (k m : ℕ) → count x.made ≡ k → count y.made ≡ m → count (if b then x else y).made ≡ (if b then k else m)
if_counted true x y k m hx hy = hx
if_counted false x y k m hx hy = hy

call_counted : (headers : List HeaderDecl) (fs : List FunctionDecl) (f : List ℕ) (es : List P4Expr) (n : Counts) → count (lower_call headers fs f es n).made ≡ call_count 0 fs f
call_counted headers [] f es n = refl
call_counted headers (d ∷ earlier) f es n =
    if_counted (same_name f d.name.text) (if_body headers earlier d d.body es n) (lower_call headers earlier f es n) _ _
    (body_counted headers earlier d d.body es n (λ g xs m. call_counted headers earlier g xs m)) (call_counted headers earlier f es n)

group_counted : (fs : List FunctionDecl) (f : List ℕ) (es : List P4Expr) (n : Counts) → count (lower_group fs f es n).made ≡ group_count fs f
group_counted [] f es n = refl
group_counted (d ∷ earlier) f es n =
    if_counted (same_name f d.name.text) (by_group d es n) (lower_group earlier f es n) 1 (group_count earlier f)
    (no_tables (key_name n.app) 0 n.field (params_before_last d.params) _) (group_counted earlier f es n)

-- ---- blocks

fork_counted : (x : List ℕ) (w : ℕ) (body : Block) (b : Bool) (vars : List Variable) (r : Lowered) → count (forked x w body b vars r).made ≡ count r.made
fork_counted x w body true vars r = count_more r.made (a_field _ _ _ ∷ []) ∙ omega arith
fork_counted x w body false vars r = refl

plus_none : (ms : List Made) (m : Made) (k : ℕ) → count (m ∷ []) ≡ 0 → count ms ≡ k → count (ms ++ m ∷ []) ≡ k
plus_none ms m k z h = count_two ms (m ∷ []) k 0 h z ∙ omega arith

mutual
  stmt_counted : (headers : List HeaderDecl) (fs : List FunctionDecl) (port : List ℕ) (vars : List Variable) (n : Counts) (s : Stmt) → count (lower_stmt (callees headers fs port) vars n s).made ≡ stmt_count 0 fs s
  stmt_counted headers fs port vars n (let_ at x w e) =
      let r = lower_expr (callees headers fs port) vars n e in
      plus_none r.made (a_field (var_name r.next.var) r.next.field w) (expr_count 0 (call_count 0 fs) e) refl (expr_counted (callees headers fs port) (call_count 0 fs) (call_counted headers fs) vars n e)
  stmt_counted headers fs port vars n (set_field at h f e) = expr_counted (callees headers fs port) (call_count 0 fs) (call_counted headers fs) vars n e
  stmt_counted headers fs port vars n (if_ at e first second) =
      let c = callees headers fs port in
      let k = (lower_expr c vars n e).next in
      let m = (lower_block c vars k first).next in
      count_three (lower_expr c vars n e).made (lower_block c vars k first).made (lower_block c vars m second).made _ _ _
      (expr_counted c (call_count 0 fs) (call_counted headers fs) vars n e) (block_counted headers fs port vars k first) (block_counted headers fs port vars m second)
  stmt_counted headers fs port vars n (filter at e) = expr_counted (callees headers fs port) (call_count 0 fs) (call_counted headers fs) vars n e
  stmt_counted headers fs port vars n (havoc_var at x w) = refl
  stmt_counted headers fs port vars n (havoc_field at h f) = refl
  stmt_counted headers fs port vars n (assume at e) = refl
  stmt_counted headers fs port vars n (fork at x w e body) =
      let c = callees headers fs port in
      let a = lower_exprs c vars n (fork_args e) in
      fork_counted x.text w body (in_block port body) vars _
      ∙ count_two a.made (lower_group fs (fork_function e) a.exprs a.next).made _ _
      (exprs_counted c (call_count 0 fs) (call_counted headers fs) vars n (fork_args e)) (group_counted fs (fork_function e) a.exprs a.next)
  stmt_counted headers fs port vars n (send at r es) = exprs_counted (callees headers fs port) (call_count 0 fs) (call_counted headers fs) vars n es

  pub block_counted : (headers : List HeaderDecl) (fs : List FunctionDecl) (port : List ℕ) (vars : List Variable) (n : Counts) (b : Block) → count (lower_block (callees headers fs port) vars n b).made ≡ block_count 0 fs b
  block_counted headers fs port vars n no_stmts = refl
  block_counted headers fs port vars n (stmt s rest) =
      let a = lower_stmt (callees headers fs port) vars n s in
      count_two a.made (lower_block (callees headers fs port) a.vars a.next rest).made _ _ (stmt_counted headers fs port vars n s) (block_counted headers fs port a.vars a.next rest)

-- ---- the blocks of forks

abbrev pub sites_count : (part : ℕ) → List FunctionDecl → List Site → ℕ
sites_count part fs [] = 0
sites_count part fs (x ∷ xs) = block_count part fs x.body + sites_count part fs xs

sites_more : (part : ℕ) (fs : List FunctionDecl) (xs ys : List Site) → sites_count part fs (xs ++ ys) ≡ sites_count part fs xs + sites_count part fs ys
sites_more part fs [] ys = omega arith
sites_more part fs (x ∷ xs) ys = let r = sites_more part fs xs ys in omega arith

sites_counted : (headers : List HeaderDecl) (fs : List FunctionDecl) (port : List ℕ) (n : Counts) (xs : List Site) → count (lower_sites (callees headers fs port) n xs).made ≡ sites_count 0 fs xs
sites_counted headers fs port n [] = refl
sites_counted headers fs port n (x ∷ xs) =
    let a = lower_site (callees headers fs port) n x in
    count_two a.made (lower_sites (callees headers fs port) a.next xs).made _ _
    (block_counted headers fs port _ _ x.body) (sites_counted headers fs port a.next xs)

forked_sites : (part : ℕ) (fs : List FunctionDecl) (x : List ℕ) (w : ℕ) (body : Block) (b : Bool) (vars : List Variable) (r : Lowered)
    → (sites_count part fs (forked x w body b vars r).sites ≡ block_count part fs body) × (length (forked x w body b vars r).sites ≡ 1)
forked_sites part fs x w body true vars r = (omega arith, refl)
forked_sites part fs x w body false vars r = (omega arith, refl)

mutual
  stmt_sites : (part : ℕ) (c : Callees) (fs : List FunctionDecl) (vars : List Variable) (n : Counts) (s : Stmt)
      → (sites_count part fs (lower_stmt c vars n s).sites ≡ stmt_site_count part fs s) × (length (lower_stmt c vars n s).sites ≡ stmt_forks s)
  stmt_sites part c fs vars n (let_ at x w e) = (refl, refl)
  stmt_sites part c fs vars n (set_field at h f e) = (refl, refl)
  stmt_sites part c fs vars n (if_ at e first second) =
      let k = (lower_expr c vars n e).next in
      let a = lower_block c vars k first in
      let b = lower_block c vars a.next second in
      let ha = block_sites part c fs vars k first in
      let hb = block_sites part c fs vars a.next second in
      (sites_more part fs a.sites b.sites ∙ (λ i. ha.0 i + hb.0 i), length-append a.sites b.sites ∙ (λ i. ha.1 i + hb.1 i))
  stmt_sites part c fs vars n (filter at e) = (refl, refl)
  stmt_sites part c fs vars n (havoc_var at x w) = (refl, refl)
  stmt_sites part c fs vars n (havoc_field at h f) = (refl, refl)
  stmt_sites part c fs vars n (assume at e) = (refl, refl)
  stmt_sites part c fs vars n (fork at x w e body) = forked_sites part fs x.text w body (in_block c.port body) vars _
  stmt_sites part c fs vars n (send at r es) = (refl, refl)

  pub block_sites : (part : ℕ) (c : Callees) (fs : List FunctionDecl) (vars : List Variable) (n : Counts) (b : Block)
      → (sites_count part fs (lower_block c vars n b).sites ≡ site_count part fs b) × (length (lower_block c vars n b).sites ≡ forks b)
  block_sites part c fs vars n no_stmts = (refl, refl)
  block_sites part c fs vars n (stmt s rest) =
      let a = lower_stmt c vars n s in
      let b = lower_block c a.vars a.next rest in
      let ha = stmt_sites part c fs vars n s in
      let hb = block_sites part c fs a.vars a.next rest in
      (sites_more part fs a.sites b.sites ∙ (λ i. ha.0 i + hb.0 i), length-append a.sites b.sites ∙ (λ i. ha.1 i + hb.1 i))

-- a block has as many forks as are counted
pub forks_counted : (c : Callees) (vars : List Variable) (n : Counts) (b : Block) → length (lower_block c vars n b).sites ≡ forks b
forks_counted c vars n b = (block_sites 0 c [] vars n b).1

-- and both controls have as many tables
pub all_counted : (headers : List HeaderDecl) (fs : List FunctionDecl) (port : List ℕ) (vars : List Variable) (n m : Counts) (b : Block)
    → length (tables_in ((lower_block (callees headers fs port) vars n b).made ++ (lower_sites (callees headers fs port) m (lower_block (callees headers fs port) vars n b).sites).made)) ≡ all_tables fs b
all_counted headers fs port vars n m b =
    count_two (lower_block (callees headers fs port) vars n b).made _ _ _ (block_counted headers fs port vars n b)
    (sites_counted headers fs port m (lower_block (callees headers fs port) vars n b).sites ∙ (block_sites 0 (callees headers fs port) fs vars n b).0)
