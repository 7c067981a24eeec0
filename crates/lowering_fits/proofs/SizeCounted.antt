-- What is counted of lowered code is no more than the bytes of its text.
use Rattle.std.proofs.Common.{◌≡◌, ℕ, zero, suc, ◌+◌, ◌-◌, ◌*◌, ◌==◌, ◌≤◌, Bool, true, false, if◌then◌else◌, List, [], ◌∷◌, ◌++◌, length, codes, Option, Some, None, sym, subst, arith}
use Rattle.std.proofs.lemmas.Bool.Decides.{nat_tests}
use Rattle.std.proofs.lemmas.List.{length-append}
use Rattle.cocoon_num.specs.Names.{same_name}
use Rattle.cocoon_num.specs.Values.{not_}
use Rattle.cocoon_num.specs.Tree.{Expr, name, field, lit, true_or_false, call, unary, binary, slice, pick, Exprs, no_exprs, expr, FunctionDecl, HeaderDecl, Stmt, Block, let_, set_field, if_, filter, havoc_var, havoc_field, assume, fork, send, no_stmts, stmt}
use Rattle.p4_ir.specs.P4Tree.{P4Expr, p_lit, p_meta, p_rid, p_port, p_unary, p_binary, p_slice, P4Stmt, apply_table, p_if, p_return, set_header, set_meta, P4Field, Program}
use Rattle.p4_ir.specs.Program.{block_of}
use Rattle.cocoon_num.specs.Values.{equal}
use Rattle.p4_emit.specs.Printed.{block_text, architecture_piece, deparse_text, deparser_piece, each_text, extract_text, header_text, headers_piece, member_text, meta_member_text, meta_piece, parser_piece, egress_apply, egress_piece, egress_text, fixed, heads_text, ingress_apply, ingress_piece, ingress_text, main_piece, printed, table_text}
use Rattle.lowering.specs.Counting.{block_count, call_count, closed_count, expr_count, exprs_count, group_count, printed_part, role_size, site_count, stmt_count}
use Rattle.lowering.specs.Lower.{Callees, Counts, Lowered, Variable, a_field, after_args, by_group, by_table, callees, closed, field_place, header_place, kept, fields_from, kind_width, lower_call, lower_expr, lower_exprs, lower_group, sets, var_name, variables_from}
use Rattle.lowering.specs.LowerBlock.{Site, copy_code, filter_code, fork_args, fork_function, forked, if_stmt, in_block, lower_block, lower_stmt, send_code}
use Rattle.lowering.specs.LowerSites.{lower_site, lower_sites, with_return}
use Rattle.lowering.specs.Whole.{SwitchRole, role_lowered, role_vars}
use Rattle.lowering.proofs.Counted.{block_sites, sites_count}
use Rattle.lowering.specs.SwitchProgram.{egress_lowered, fields_in, switch_program}
use Rattle.lowering_fits.proofs.Lengths.{all_length, apply_long, code_length, code_more, expr_length, fields_length, fields_more, if_long, kept_long, members_long, operation_long, params_long, pick_long, return_long, set_header_long, set_long, sets_long, slice_long, unary_long, whole_length, whole_more}

-- ---- expressions

-- a call of a function that is there is no longer than its code, with the arguments that are set before it
abbrev Paid : (count args code : ℕ) → Type 0
Paid zero args code = Unit {0}
Paid (suc n) args code = args + suc n ≤ code

paid_of : (count args code : ℕ) → args + count ≤ code → Paid count args code
paid_of zero args code h = tt
paid_of (suc n) args code h = h

abbrev CallsPaid : Program → Callees → (List ℕ → ℕ) → Type 0
CallsPaid p c calls = (d : ℕ) (f : List ℕ) (es : List P4Expr) (n : Counts) → Paid (calls f) (all_length p es) (whole_length p d (c.call f es n).code (c.call f es n).made)

least : (count args code : ℕ) → Paid count args code → count ≤ code
least zero args code h = omega arith
least (suc n) args code h = omega arith

-- of a call with its arguments, whose own parts are counted or not
call_unpaid : (n : ℕ) (count : ℕ → ℕ) (args before code : ℕ) → Paid n args code → count 0 ≤ before → count (printed_part 0 n) + n ≤ before + code
call_unpaid n count args before code h k = none (n == 0)
  where
    none : (b : Bool) → count (if b then 0 else 0) + n ≤ before + code
    none true = let most : n ≤ code = least n args code h in omega arith
    none false = let most : n ≤ code = least n args code h in omega arith

call_paid : (n : ℕ) (count : ℕ → ℕ) (args before code : ℕ) → Paid n args code → count 0 ≤ before → count 2 ≤ args + before → count (printed_part 2 n) + n ≤ before + code
call_paid zero count args before code h k l = omega arith
call_paid (suc n) count args before code h k l =
    let some : (suc n == 0) ≡ false = grind (arith, nat_tests) in
    subst (λ b. count (if b then 0 else 2) + suc n ≤ before + code) (sym some) (omega arith)

-- the calls in an expression are no longer than its code
mutual
  expr_calls : (p : Program) (d : ℕ) (c : Callees) (calls : List ℕ → ℕ) → CallsPaid p c calls → (vars : List Variable) (n : Counts) (e : Expr) → expr_count 0 calls e ≤ whole_length p d (lower_expr c vars n e).code (lower_expr c vars n e).made
  expr_calls p d c calls g vars n (name at x) = omega arith
  expr_calls p d c calls g vars n (field at h f) = omega arith
  expr_calls p d c calls g vars n (lit at w x) = omega arith
  expr_calls p d c calls g vars n (true_or_false at b) = omega arith
  expr_calls p d c calls g vars n (call at f es) =
      let a = lower_exprs c vars n es in
      let r = c.call f.text a.exprs a.next in
      let sum : whole_length p d (a.code ++ r.code) (a.made ++ r.made) ≡ whole_length p d a.code a.made + whole_length p d r.code r.made = whole_more p d a.code r.code a.made r.made in
      let h = call_unpaid (calls f.text) (λ k. exprs_count k calls es) (all_length p a.exprs) (whole_length p d a.code a.made) (whole_length p d r.code r.made) (g d f.text a.exprs a.next) (exprs_calls p d c calls g vars n es) in
      omega arith
  expr_calls p d c calls g vars n (unary at op a) = let h : expr_count 0 calls a ≤ whole_length p d (lower_expr c vars n a).code (lower_expr c vars n a).made = expr_calls p d c calls g vars n a in omega arith
  expr_calls p d c calls g vars n (binary at op a b) =
      let x = lower_expr c vars n a in
      let y = lower_expr c vars x.next b in
      let sum : whole_length p d (x.code ++ y.code) (x.made ++ y.made) ≡ whole_length p d x.code x.made + whole_length p d y.code y.made = whole_more p d x.code y.code x.made y.made in
      let h : expr_count 0 calls a ≤ whole_length p d x.code x.made = expr_calls p d c calls g vars n a in
      let k : expr_count 0 calls b ≤ whole_length p d y.code y.made = expr_calls p d c calls g vars x.next b in
      omega arith
  expr_calls p d c calls g vars n (slice at a high low) = let h : expr_count 0 calls a ≤ whole_length p d (lower_expr c vars n a).code (lower_expr c vars n a).made = expr_calls p d c calls g vars n a in omega arith
  expr_calls p d c calls g vars n (pick at e a b) =
      let z = lower_expr c vars n e in
      let x = lower_expr c vars z.next a in
      let y = lower_expr c vars x.next b in
      let outer : whole_length p d (z.code ++ (x.code ++ y.code)) (z.made ++ (x.made ++ y.made)) ≡ whole_length p d z.code z.made + whole_length p d (x.code ++ y.code) (x.made ++ y.made) = whole_more p d z.code (x.code ++ y.code) z.made (x.made ++ y.made) in
      let sum : whole_length p d (x.code ++ y.code) (x.made ++ y.made) ≡ whole_length p d x.code x.made + whole_length p d y.code y.made = whole_more p d x.code y.code x.made y.made in
      let i : expr_count 0 calls e ≤ whole_length p d z.code z.made = expr_calls p d c calls g vars n e in
      let h : expr_count 0 calls a ≤ whole_length p d x.code x.made = expr_calls p d c calls g vars z.next a in
      let k : expr_count 0 calls b ≤ whole_length p d y.code y.made = expr_calls p d c calls g vars x.next b in
      omega arith

  exprs_calls : (p : Program) (d : ℕ) (c : Callees) (calls : List ℕ → ℕ) → CallsPaid p c calls → (vars : List Variable) (n : Counts) (es : Exprs) → exprs_count 0 calls es ≤ whole_length p d (lower_exprs c vars n es).code (lower_exprs c vars n es).made
  exprs_calls p d c calls g vars n no_exprs = omega arith
  exprs_calls p d c calls g vars n (expr e es) =
      let x = lower_expr c vars n e in
      let y = lower_exprs c vars x.next es in
      let sum : whole_length p d (x.code ++ y.code) (x.made ++ y.made) ≡ whole_length p d x.code x.made + whole_length p d y.code y.made = whole_more p d x.code y.code x.made y.made in
      let h : expr_count 0 calls e ≤ whole_length p d x.code x.made = expr_calls p d c calls g vars n e in
      let k : exprs_count 0 calls es ≤ whole_length p d y.code y.made = exprs_calls p d c calls g vars x.next es in
      omega arith

-- and with its parts no longer than its code and its text with a byte more
mutual
  expr_parts : (p : Program) (d : ℕ) (c : Callees) (calls : List ℕ → ℕ) → CallsPaid p c calls → (vars : List Variable) (n : Counts) (e : Expr)
      → expr_count 2 calls e ≤ (2 + expr_length p (lower_expr c vars n e).expr) + whole_length p d (lower_expr c vars n e).code (lower_expr c vars n e).made
  expr_parts p d c calls g vars n (name at x) = omega arith
  expr_parts p d c calls g vars n (field at h f) = omega arith
  expr_parts p d c calls g vars n (lit at w x) = omega arith
  expr_parts p d c calls g vars n (true_or_false at b) = omega arith
  expr_parts p d c calls g vars n (call at f es) =
      let a = lower_exprs c vars n es in
      let r = c.call f.text a.exprs a.next in
      let sum : whole_length p d (a.code ++ r.code) (a.made ++ r.made) ≡ whole_length p d a.code a.made + whole_length p d r.code r.made = whole_more p d a.code r.code a.made r.made in
      let h = call_paid (calls f.text) (λ k. exprs_count k calls es) (all_length p a.exprs) (whole_length p d a.code a.made) (whole_length p d r.code r.made) (g d f.text a.exprs a.next)
      (exprs_calls p d c calls g vars n es) (exprs_parts p d c calls g vars n es) in
      omega arith
  expr_parts p d c calls g vars n (unary at op a) =
      let x = lower_expr c vars n a in
      let h : expr_count 2 calls a ≤ (2 + expr_length p x.expr) + whole_length p d x.code x.made = expr_parts p d c calls g vars n a in
      let t = unary_long p op x.expr in
      omega arith
  expr_parts p d c calls g vars n (binary at op a b) =
      let x = lower_expr c vars n a in
      let y = lower_expr c vars x.next b in
      let sum : whole_length p d (x.code ++ y.code) (x.made ++ y.made) ≡ whole_length p d x.code x.made + whole_length p d y.code y.made = whole_more p d x.code y.code x.made y.made in
      let h : expr_count 2 calls a ≤ (2 + expr_length p x.expr) + whole_length p d x.code x.made = expr_parts p d c calls g vars n a in
      let k : expr_count 2 calls b ≤ (2 + expr_length p y.expr) + whole_length p d y.code y.made = expr_parts p d c calls g vars x.next b in
      let t = operation_long p op x.expr y.expr in
      omega arith
  expr_parts p d c calls g vars n (slice at a high low) =
      let x = lower_expr c vars n a in
      let h : expr_count 2 calls a ≤ (2 + expr_length p x.expr) + whole_length p d x.code x.made = expr_parts p d c calls g vars n a in
      let t = slice_long p x.expr high low in
      omega arith
  expr_parts p d c calls g vars n (pick at e a b) =
      let z = lower_expr c vars n e in
      let x = lower_expr c vars z.next a in
      let y = lower_expr c vars x.next b in
      let outer : whole_length p d (z.code ++ (x.code ++ y.code)) (z.made ++ (x.made ++ y.made)) ≡ whole_length p d z.code z.made + whole_length p d (x.code ++ y.code) (x.made ++ y.made) = whole_more p d z.code (x.code ++ y.code) z.made (x.made ++ y.made) in
      let sum : whole_length p d (x.code ++ y.code) (x.made ++ y.made) ≡ whole_length p d x.code x.made + whole_length p d y.code y.made = whole_more p d x.code y.code x.made y.made in
      let i : expr_count 2 calls e ≤ (2 + expr_length p z.expr) + whole_length p d z.code z.made = expr_parts p d c calls g vars n e in
      let h : expr_count 2 calls a ≤ (2 + expr_length p x.expr) + whole_length p d x.code x.made = expr_parts p d c calls g vars z.next a in
      let k : expr_count 2 calls b ≤ (2 + expr_length p y.expr) + whole_length p d y.code y.made = expr_parts p d c calls g vars x.next b in
      let t = pick_long p z.expr x.expr y.expr in
      omega arith

  exprs_parts : (p : Program) (d : ℕ) (c : Callees) (calls : List ℕ → ℕ) → CallsPaid p c calls → (vars : List Variable) (n : Counts) (es : Exprs)
      → exprs_count 2 calls es ≤ all_length p (lower_exprs c vars n es).exprs + whole_length p d (lower_exprs c vars n es).code (lower_exprs c vars n es).made
  exprs_parts p d c calls g vars n no_exprs = omega arith
  exprs_parts p d c calls g vars n (expr e es) =
      let x = lower_expr c vars n e in
      let y = lower_exprs c vars x.next es in
      let sum : whole_length p d (x.code ++ y.code) (x.made ++ y.made) ≡ whole_length p d x.code x.made + whole_length p d y.code y.made = whole_more p d x.code y.code x.made y.made in
      let h : expr_count 2 calls e ≤ (2 + expr_length p x.expr) + whole_length p d x.code x.made = expr_parts p d c calls g vars n e in
      let k : exprs_count 2 calls es ≤ all_length p y.exprs + whole_length p d y.code y.made = exprs_parts p d c calls g vars x.next es in
      omega arith

-- ---- calls

abbrev if_body : List HeaderDecl → List FunctionDecl → FunctionDecl → Option Expr → List P4Expr → Counts → Lowered
if_body headers earlier g body es n =
    elim body [
      | None ↦ by_table g es n
      | Some e ↦ closed g es n (lower_expr (callees headers earlier []) (variables_from n.field g.params) (after_args g n) e)
    ]

-- fields that are set, and the table that is applied after them
applied_long : (p : Program) (d i a : ℕ) (es : List P4Expr) → all_length p es + 1 ≤ code_length p d (sets i es ++ (apply_table a ∷ []))
applied_long p d i a es =
    let sum : code_length p d (sets i es ++ (apply_table a ∷ [])) ≡ code_length p d (sets i es) + code_length p d (apply_table a ∷ []) = code_more p d (sets i es) (apply_table a ∷ []) in
    let h : all_length p es ≤ code_length p d (sets i es) = sets_long p d i es in
    let k : 1 ≤ code_length p d (apply_table a ∷ []) = apply_long p d a in
    omega arith

body_paid : (p : Program) (d : ℕ) (headers : List HeaderDecl) (earlier : List FunctionDecl) (g : FunctionDecl) (body : Option Expr) (es : List P4Expr) (n : Counts)
    → CallsPaid p (callees headers earlier []) (call_count 2 earlier)
    → Paid (elim body [ None ↦ 1 | Some e ↦ closed_count 2 (length g.params) (expr_count 2 (call_count 2 earlier) e) ]) (all_length p es)
    (whole_length p d (if_body headers earlier g body es n).code (if_body headers earlier g body es n).made)
body_paid p d headers earlier g None es n h =
    let r = by_table g es n in
    let k : all_length p es + 1 ≤ code_length p d r.code = applied_long p d n.field n.app es in
    paid_of 1 (all_length p es) (whole_length p d r.code r.made) (omega arith)
body_paid p d headers earlier g (Some e) es n h =
    let r = lower_expr (callees headers earlier []) (variables_from n.field g.params) (after_args g n) e in
    let last = set_meta r.next.field (kept g.result r.expr) ∷ [] in
    let result = a_field (var_name r.next.var) r.next.field (kind_width g.result) ∷ [] in
    let outer : code_length p d (sets n.field es ++ (r.code ++ last)) ≡ code_length p d (sets n.field es) + code_length p d (r.code ++ last) = code_more p d (sets n.field es) (r.code ++ last) in
    let fields : fields_length (fields_from var_name n.var n.field g.params ++ (r.made ++ result)) ≡ 11 * length g.params + fields_length (r.made ++ result)
    = params_long var_name n.var n.field g.params (r.made ++ result) in
    let sum : whole_length p d (r.code ++ last) (r.made ++ result) ≡ whole_length p d r.code r.made + whole_length p d last result = whole_more p d r.code last r.made result in
    let args : all_length p es ≤ code_length p d (sets n.field es) = sets_long p d n.field es in
    let value : expr_length p (kept g.result r.expr) + 9 + 0 ≤ code_length p d last = set_long p d r.next.field (kept g.result r.expr) [] in
    let keeps : expr_length p r.expr ≤ expr_length p (kept g.result r.expr) = kept_long p g.result r.expr in
    let parts : expr_count 2 (call_count 2 earlier) e ≤ (2 + expr_length p r.expr) + whole_length p d r.code r.made
    = expr_parts p d (callees headers earlier []) (call_count 2 earlier) h (variables_from n.field g.params) (after_args g n) e in
    let c = closed g es n r in
    paid_of (closed_count 2 (length g.params) (expr_count 2 (call_count 2 earlier) e)) (all_length p es) (whole_length p d c.code c.made) (omega arith)

paid_either : (b : Bool) (m k args : ℕ) (p : Program) (d : ℕ) (x y : Lowered) → Paid m args (whole_length p d x.code x.made) → Paid k args (whole_length p d y.code y.made)
    → Paid (if b then m else k) args (whole_length p d (if b then x else y).code (if b then x else y).made)
paid_either true m k args p d x y h g = h
paid_either false m k args p d x y h g = g

calls_paid : (p : Program) (headers : List HeaderDecl) (fs : List FunctionDecl) (d : ℕ) (f : List ℕ) (es : List P4Expr) (n : Counts) → Paid (call_count 2 fs f) (all_length p es) (whole_length p d (lower_call headers fs f es n).code (lower_call headers fs f es n).made)
calls_paid p headers [] d f es n = tt
calls_paid p headers (g ∷ earlier) d f es n =
    paid_either (same_name f g.name.text) _ _ (all_length p es) p d (if_body headers earlier g g.body es n) (lower_call headers earlier f es n)
    (body_paid p d headers earlier g g.body es n (λ k h xs m. calls_paid p headers earlier k h xs m)) (calls_paid p headers earlier d f es n)

group_either : (b : Bool) (k : ℕ) (p : Program) (d : ℕ) (x y : Lowered) → 1 ≤ whole_length p d x.code x.made → k ≤ whole_length p d y.code y.made → (if b then 1 else k) ≤ whole_length p d (if b then x else y).code (if b then x else y).made
group_either true k p d x y h g = h
group_either false k p d x y h g = g

group_paid : (p : Program) (fs : List FunctionDecl) (d : ℕ) (f : List ℕ) (es : List P4Expr) (n : Counts) → group_count fs f ≤ whole_length p d (lower_group fs f es n).code (lower_group fs f es n).made
group_paid p [] d f es n = omega arith
group_paid p (g ∷ earlier) d f es n =
    let h : all_length p es + 1 ≤ code_length p d (sets n.field es ++ (apply_table n.app ∷ [])) = applied_long p d n.field n.app es in
    group_either (same_name f g.name.text) (group_count earlier f) p d (by_group g es n) (lower_group earlier f es n) (omega arith) (group_paid p earlier d f es n)

-- ---- blocks

forked_long : (p : Program) (d : ℕ) (x : List ℕ) (w : ℕ) (body : Block) (b : Bool) (vars : List Variable) (r : Lowered)
    → whole_length p d r.code r.made ≤ whole_length p d (forked x w body b vars r).code (forked x w body b vars r).made
forked_long p d x w body true vars r =
    let more = set_meta r.next.field p_port ∷ copy_code r.next.site r.expr in
    let kept_port = a_field (var_name r.next.var) r.next.field 16 ∷ [] in
    let sum : whole_length p d (r.code ++ more) (r.made ++ kept_port) ≡ whole_length p d r.code r.made + whole_length p d more kept_port = whole_more p d r.code more r.made kept_port in
    omega arith
forked_long p d x w body false vars r =
    let more = copy_code r.next.site r.expr in
    let sum : code_length p d (r.code ++ more) ≡ code_length p d r.code + code_length p d more = code_more p d r.code more in
    omega arith

-- an expression, and what is done with its value
then_long : (p : Program) (d count : ℕ) (r : Lowered) (more : List P4Stmt) → count ≤ (2 + expr_length p r.expr) + whole_length p d r.code r.made → 2 + expr_length p r.expr ≤ code_length p d more
    → count ≤ whole_length p d (r.code ++ more) r.made
then_long p d count r more h k = let sum : code_length p d (r.code ++ more) ≡ code_length p d r.code + code_length p d more = code_more p d r.code more in omega arith

mutual
  stmt_parts : (p : Program) (d : ℕ) (headers : List HeaderDecl) (fs : List FunctionDecl) (port : List ℕ) (vars : List Variable) (n : Counts) (s : Stmt)
      → stmt_count 2 fs s ≤ whole_length p d (lower_stmt (callees headers fs port) vars n s).code (lower_stmt (callees headers fs port) vars n s).made
  stmt_parts p d headers fs port vars n (let_ at x w e) =
      let r = lower_expr (callees headers fs port) vars n e in
      let k : expr_length p r.expr + 9 + 0 ≤ code_length p d (set_meta r.next.field r.expr ∷ []) = set_long p d r.next.field r.expr [] in
      let made = a_field (var_name r.next.var) r.next.field w ∷ [] in
      let sum : fields_length (r.made ++ made) ≡ fields_length r.made + fields_length made = fields_more r.made made in
      let h : stmt_count 2 fs (let_ at x w e) ≤ whole_length p d (r.code ++ (set_meta r.next.field r.expr ∷ [])) r.made
      = then_long p d _ r (set_meta r.next.field r.expr ∷ []) (expr_parts p d (callees headers fs port) (call_count 2 fs) (calls_paid p headers fs) vars n e) (omega arith) in
      omega arith
  stmt_parts p d headers fs port vars n (set_field at h f e) =
      let r = lower_expr (callees headers fs port) vars n e in
      let more = set_header (header_place headers h.text) (field_place headers h.text f.text) r.expr ∷ [] in
      let k : expr_length p r.expr + 9 ≤ code_length p d more = set_header_long p d (header_place headers h.text) (field_place headers h.text f.text) r.expr in
      then_long p d _ r more (expr_parts p d (callees headers fs port) (call_count 2 fs) (calls_paid p headers fs) vars n e) (omega arith)
  stmt_parts p d headers fs port vars n (if_ at e first second) =
      let c = callees headers fs port in
      let r = lower_expr c vars n e in
      let a = lower_block c vars r.next first in
      let b = lower_block c vars a.next second in
      let parts : expr_count 2 (call_count 2 fs) e ≤ (2 + expr_length p r.expr) + whole_length p d r.code r.made = expr_parts p d c (call_count 2 fs) (calls_paid p headers fs) vars n e in
      let ha : block_count 2 fs first ≤ whole_length p (suc d) a.code a.made = block_parts p (suc d) headers fs port vars r.next first in
      let hb : block_count 2 fs second ≤ whole_length p (suc d) b.code b.made = block_parts p (suc d) headers fs port vars a.next second in
      let more = if_stmt r.expr a.code b.code ∷ [] in
      let long : (2 + expr_length p r.expr) + (code_length p (suc d) a.code + code_length p (suc d) b.code) ≤ code_length p d more = if_long p d r.expr a.code b.code in
      let sum : code_length p d (r.code ++ more) ≡ code_length p d r.code + code_length p d more = code_more p d r.code more in
      let outer : fields_length (r.made ++ (a.made ++ b.made)) ≡ fields_length r.made + fields_length (a.made ++ b.made) = fields_more r.made (a.made ++ b.made) in
      let inner : fields_length (a.made ++ b.made) ≡ fields_length a.made + fields_length b.made = fields_more a.made b.made in
      omega arith
  stmt_parts p d headers fs port vars n (filter at e) =
      let r = lower_expr (callees headers fs port) vars n e in
      let more = filter_code r.expr in
      let k : (2 + expr_length p (p_unary not_ r.expr)) + (code_length p (suc d) (p_return ∷ []) + 0) ≤ code_length p d more = if_long p d (p_unary not_ r.expr) (p_return ∷ []) [] in
      let t : expr_length p r.expr + 2 ≤ expr_length p (p_unary not_ r.expr) = unary_long p not_ r.expr in
      then_long p d _ r more (expr_parts p d (callees headers fs port) (call_count 2 fs) (calls_paid p headers fs) vars n e) (omega arith)
  stmt_parts p d headers fs port vars n (havoc_var at x w) = omega arith
  stmt_parts p d headers fs port vars n (havoc_field at h f) = omega arith
  stmt_parts p d headers fs port vars n (assume at e) = omega arith
  stmt_parts p d headers fs port vars n (fork at x w e body) =
      let c = callees headers fs port in
      let a = lower_exprs c vars n (fork_args e) in
      let g = lower_group fs (fork_function e) a.exprs a.next in
      let ha : exprs_count 0 (call_count 2 fs) (fork_args e) ≤ whole_length p d a.code a.made = exprs_calls p d c (call_count 2 fs) (calls_paid p headers fs) vars n (fork_args e) in
      let hg : group_count fs (fork_function e) ≤ whole_length p d g.code g.made = group_paid p fs d (fork_function e) a.exprs a.next in
      let sum : whole_length p d (a.code ++ g.code) (a.made ++ g.made) ≡ whole_length p d a.code a.made + whole_length p d g.code g.made = whole_more p d a.code g.code a.made g.made in
      let r : Lowered = record { code = a.code ++ g.code; made = a.made ++ g.made; expr = g.expr; next = g.next } in
      let f = forked x.text w body (in_block port body) vars r in
      let long : whole_length p d r.code r.made ≤ whole_length p d f.code f.made = forked_long p d x.text w body (in_block port body) vars r in
      omega arith
  stmt_parts p d headers fs port vars n (send at r es) =
      let c = callees headers fs port in
      let a = lower_exprs c vars n es in
      let ha : exprs_count 0 (call_count 2 fs) es ≤ whole_length p d a.code a.made = exprs_calls p d c (call_count 2 fs) (calls_paid p headers fs) vars n es in
      let sum : code_length p d (a.code ++ send_code a.exprs) ≡ code_length p d a.code + code_length p d (send_code a.exprs) = code_more p d a.code (send_code a.exprs) in
      omega arith

  block_parts : (p : Program) (d : ℕ) (headers : List HeaderDecl) (fs : List FunctionDecl) (port : List ℕ) (vars : List Variable) (n : Counts) (b : Block)
      → block_count 2 fs b ≤ whole_length p d (lower_block (callees headers fs port) vars n b).code (lower_block (callees headers fs port) vars n b).made
  block_parts p d headers fs port vars n no_stmts = omega arith
  block_parts p d headers fs port vars n (stmt s rest) =
      let c = callees headers fs port in
      let a = lower_stmt c vars n s in
      let b = lower_block c a.vars a.next rest in
      let ha : stmt_count 2 fs s ≤ whole_length p d a.code a.made = stmt_parts p d headers fs port vars n s in
      let hb : block_count 2 fs rest ≤ whole_length p d b.code b.made = block_parts p d headers fs port a.vars a.next rest in
      let sum : whole_length p d (a.code ++ b.code) (a.made ++ b.made) ≡ whole_length p d a.code a.made + whole_length p d b.code b.made = whole_more p d a.code b.code a.made b.made in
      omega arith

-- ---- the blocks of forks

-- the block of a fork over its number
abbrev if_site : P4Expr → ℕ → P4Expr → List P4Stmt → List P4Stmt
if_site e i value code = p_if e (block_of (set_meta i value ∷ with_return code)) ∷ []

site_long : (p : Program) (d : ℕ) (e value : P4Expr) (i : ℕ) (code : List P4Stmt) → code_length p (suc d) code ≤ code_length p d (if_site e i value code)
site_long p d e value i code =
    let long : (2 + expr_length p e) + (code_length p (suc d) (set_meta i value ∷ with_return code) + 0) ≤ code_length p d (if_site e i value code) = if_long p d e (set_meta i value ∷ with_return code) [] in
    let set : expr_length p value + 9 + code_length p (suc d) (with_return code) ≤ code_length p (suc d) (set_meta i value ∷ with_return code) = set_long p (suc d) i value (with_return code) in
    let back : code_length p (suc d) code ≤ code_length p (suc d) (with_return code) = return_long p (suc d) code in
    omega arith

sites_parts : (p : Program) (d : ℕ) (headers : List HeaderDecl) (fs : List FunctionDecl) (port : List ℕ) (n : Counts) (xs : List Site)
    → sites_count 2 fs xs ≤ whole_length p d (lower_sites (callees headers fs port) n xs).code (lower_sites (callees headers fs port) n xs).made
sites_parts p d headers fs port n [] = omega arith
sites_parts p d headers fs port n (x ∷ xs) =
    let c = callees headers fs port in
    let vars : List Variable = record { name = x.x; expr = p_meta n.field } ∷ x.vars in
    let m : Counts = record { app = n.app; var = suc n.var; field = suc n.field; site = n.site } in
    let b = lower_block c vars m x.body in
    let a = lower_site c n x in
    let inside : block_count 2 fs x.body ≤ whole_length p (suc d) b.code b.made = block_parts p (suc d) headers fs port vars m x.body in
    let whole : code_length p (suc d) b.code ≤ code_length p d a.code = site_long p d (p_binary equal (p_meta 0) (p_lit 8 x.number)) (p_slice p_rid (x.width - 1) 0) n.field b.code in
    let rest : sites_count 2 fs xs ≤ whole_length p d (lower_sites c a.next xs).code (lower_sites c a.next xs).made = sites_parts p d headers fs port a.next xs in
    let more = lower_sites c a.next xs in
    let sum : whole_length p d (a.code ++ more.code) (a.made ++ more.made) ≡ whole_length p d a.code a.made + whole_length p d more.code more.made = whole_more p d a.code more.code a.made more.made in
    omega arith

-- ---- the whole text

within_last : (a b : List ℕ) → length b ≤ length (a ++ b)
within_last a b = let h : length (a ++ b) ≡ length a + length b = length-append a b in omega arith

within_first : (a b : List ℕ) → length a ≤ length (a ++ b)
within_first a b = let h : length (a ++ b) ≡ length a + length b = length-append a b in omega arith

in_ingress : (p : Program) → length (block_text p 4 p.ingress.body) ≤ length (ingress_text p)
unfolding ingress_text
in_ingress p =
    let tables = each_text (table_text p) p.ingress.tables in
    let body = block_text p 4 p.ingress.body in
    let a : length body ≤ length (fixed ingress_apply ++ body) = within_last (fixed ingress_apply) body in
    let b : length (fixed ingress_apply ++ body) ≤ length (tables ++ (fixed ingress_apply ++ body)) = within_last tables (fixed ingress_apply ++ body) in
    let c : length (tables ++ (fixed ingress_apply ++ body)) ≤ length (fixed ingress_piece ++ (tables ++ (fixed ingress_apply ++ body)))
    = within_last (fixed ingress_piece) (tables ++ (fixed ingress_apply ++ body)) in
    omega arith

in_egress : (p : Program) → length (block_text p 4 p.egress.body) ≤ length (egress_text p)
unfolding egress_text
in_egress p =
    let tables = each_text (table_text p) p.egress.tables in
    let body = block_text p 4 p.egress.body in
    let rest = fixed deparser_piece ++ (each_text deparse_text p.headers ++ fixed main_piece) in
    let z : length body ≤ length (body ++ rest) = within_first body rest in
    let a : length (body ++ rest) ≤ length (fixed egress_apply ++ (body ++ rest)) = within_last (fixed egress_apply) (body ++ rest) in
    let b : length (fixed egress_apply ++ (body ++ rest)) ≤ length (tables ++ (fixed egress_apply ++ (body ++ rest))) = within_last tables (fixed egress_apply ++ (body ++ rest)) in
    let c : length (tables ++ (fixed egress_apply ++ (body ++ rest))) ≤ length (fixed egress_piece ++ (tables ++ (fixed egress_apply ++ (body ++ rest))))
    = within_last (fixed egress_piece) (tables ++ (fixed egress_apply ++ (body ++ rest))) in
    omega arith

in_heads : (p : Program) → length (each_text meta_member_text p.meta) ≤ length (heads_text p)
unfolding heads_text
in_heads p =
    let members = each_text meta_member_text p.meta in
    let d = fixed parser_piece ++ each_text extract_text p.headers in
    let c = fixed meta_piece ++ (members ++ d) in
    let b = fixed headers_piece ++ (each_text member_text p.headers ++ c) in
    let z : length members ≤ length (members ++ d) = within_first members d in
    let y : length (members ++ d) ≤ length c = within_last (fixed meta_piece) (members ++ d) in
    let x : length c ≤ length (each_text member_text p.headers ++ c) = within_last (each_text member_text p.headers) c in
    let w : length (each_text member_text p.headers ++ c) ≤ length b = within_last (fixed headers_piece) (each_text member_text p.headers ++ c) in
    let v : length b ≤ length (each_text header_text p.headers ++ b) = within_last (each_text header_text p.headers) b in
    let u : length (each_text header_text p.headers ++ b) ≤ length (fixed architecture_piece ++ (each_text header_text p.headers ++ b))
    = within_last (fixed architecture_piece) (each_text header_text p.headers ++ b) in
    omega arith

in_text : (p : Program) → length (each_text meta_member_text p.meta) + (length (block_text p 4 p.ingress.body) + length (block_text p 4 p.egress.body)) ≤ length (printed p)
in_text p =
    let h : length (each_text meta_member_text p.meta) ≤ length (heads_text p) = in_heads p in
    let i : length (block_text p 4 p.ingress.body) ≤ length (ingress_text p) = in_ingress p in
    let e : length (block_text p 4 p.egress.body) ≤ length (egress_text p) = in_egress p in
    let both : length (ingress_text p ++ egress_text p) ≡ length (ingress_text p) + length (egress_text p) = length-append (ingress_text p) (egress_text p) in
    let whole : length (printed p) ≡ length (heads_text p) + length (ingress_text p ++ egress_text p) = length-append (heads_text p) (ingress_text p ++ egress_text p) in
    omega arith

-- of a switch's program
pub program_long : (r : SwitchRole) (s : ℕ) → role_size r ≤ length (printed (switch_program r s))
program_long r s =
    let p = switch_program r s in
    let c = callees r.headers r.functions r.port in
    let b = role_lowered r s in
    let e = egress_lowered r s in
    let begun : Counts = record { app = 0; var = 0; field = 1; site = 1 } in
    let ingress : block_count 2 r.functions r.body ≤ whole_length p 0 b.code b.made = block_parts p 0 r.headers r.functions r.port (role_vars r s) begun r.body in
    let sites : sites_count 2 r.functions b.sites ≤ whole_length p 0 e.code e.made = sites_parts p 0 r.headers r.functions r.port b.next b.sites in
    let counted : sites_count 2 r.functions b.sites ≡ site_count 2 r.functions r.body = (block_sites 2 c r.functions (role_vars r s) begun r.body).0 in
    let made : fields_length (b.made ++ e.made) ≡ fields_length b.made + fields_length e.made = fields_more b.made e.made in
    let members : fields_length (b.made ++ e.made) ≤ length (each_text meta_member_text (fields_in (b.made ++ e.made))) = members_long (b.made ++ e.made) in
    let site : P4Field = record { name = codes "site"; width = 8 } in
    let meta : length (each_text meta_member_text (fields_in (b.made ++ e.made))) ≤ length (each_text meta_member_text p.meta)
    = within_last (meta_member_text site) (each_text meta_member_text (fields_in (b.made ++ e.made))) in
    let whole : length (each_text meta_member_text p.meta) + (length (block_text p 4 p.ingress.body) + length (block_text p 4 p.egress.body)) ≤ length (printed p) = in_text p in
    omega arith
