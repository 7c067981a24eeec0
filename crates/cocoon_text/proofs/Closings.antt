-- A phrase and the mark after it, which the parser reads by one function.
use Rattle.std.specs.Prelude.{◌≡◌, ℕ, suc, ◌+◌, Bool, true, false, List, slice_get, if◌then◌else◌, Some, Result, Err, codes, refl}
use Rattle.std.proofs.Common.{sym, ◌∙◌, ap, subst, arith}
use Rattle.std.proofs.Math.Numerals.{add-one}
use Rattle.cocoon_num.specs.Tokens.{Kind}
use Rattle.cocoon_num.specs.Tree.{Name, Expr, Stmt, let_, set_field, havoc_field, havoc_var, Param, Decl, an_assumption, a_host, a_switch}
use Rattle.cocoon_num.specs.Reads.{of_expr}
use Rattle.cocoon_syntax.specs.TreeOf.{decl_of, expr_of, param_of, stmt_of}
use Rattle.cocoon_syntax.specs.declared.decl.Param.{Param as CodeParam}
use Rattle.cocoon_syntax.specs.declared.expr.Expr.{Expr as CodeExpr}
use Rattle.cocoon_syntax.specs.declared.name.Name.{Name as CodeName}
use Rattle.cocoon_syntax.specs.declared.stmt.Stmt.{Stmt as CodeStmt}
use Rattle.cocoon_syntax.specs.declared.decl.Decl.{Decl as CodeDecl}
use Rattle.cocoon_text.specs.ExprPhrases.{then_mark}
use Rattle.cocoon_text.specs.Phrases.{assigned_from, havoc_field_from, havoc_variable_from, paired, PairAt, counted, PortsAt}
use Rattle.parsing.specs.PlainParser.{Outcome, good, bad, after, marked, reserved, numbered, is_mark, expr_from, ended, Path, path_from, param_from, let_from, setting_from, body_from, optional_params_from, assumption_from, host_from, switch_from}
use Rattle.cocoon_text.specs.Agrees.{Agrees, AgreesDeep, path_of, with_mark}
use Rattle.parsing.specs.Joins.{Makes}
use Rattle.parsing.specs.declared.stop.Stop.{Stop}
use Rattle.parsing.specs.declared.stop.Stop.TheVariants.{Unexpected, NoMemory}
use Rattle.cocoon_text.proofs.Eventually.{Eventually, flat, by_one, by_two, agrees_as, agrees_made, agrees_marked, after_read, at_once, once, then_same}

-- ---- an expression up to ";"

pub ended_reads : {A : Type 0} (ts : List Kind) (E : ℕ → ℕ → Outcome Expr) (f : Expr → A) (i j : ℕ) {x : Expr} {k : ℕ} {y : A} → i ≡ j → Eventually (λ n. then_mark ts (codes ";") (E n i)) (good x k) → y ≡ f x → Eventually (λ n. ended ts (E n) j f) (good y k)
unfolding after
ended_reads ts E f i j {k = k} {y = y} q p e = subst (λ z. Eventually (λ n. ended ts (E n) z f) (good y k)) q (by_one p (λ n d. then_same ts (codes ";") (E n i) (λ x k. good (f x) k) ∙ ap (λ z. after z (λ x k. good (f x) k)) d ∙ ap (λ z. good z k) (sym e)))

pub ended_fails : {A : Type 0} (ts : List Kind) (E : ℕ → ℕ → Outcome Expr) (f : Expr → A) (i j : ℕ) {k : ℕ} → i ≡ j → Eventually (λ n. then_mark ts (codes ";") (E n i)) (bad k) → Eventually (λ n. ended ts (E n) j f) (bad k)
unfolding after
ended_fails ts E f i j {k = k} q p = subst (λ z. Eventually (λ n. ended ts (E n) z f) (bad k)) q (by_one p (λ n d. then_same ts (codes ";") (E n i) (λ x k. good (f x) k) ∙ ap (λ z. after z (λ x k. good (f x) k)) d))

-- ---- what is assigned

assigned_same : {A : Type 0} (ts : List Kind) (e : ℕ → Outcome Expr) (f : Expr → A) (j : ℕ) → marked ts (codes "=") j (ended ts e (suc j) f) ≡ after (assigned_from ts e j) (λ x k. good (f x) k)
unfolding after marked
assigned_same {A} ts e f j = by (is_mark (codes "=") (slice_get ts j))
  where
    by : (t : Bool) → (if t then ended ts e (suc j) f else bad j) ≡ after (if t then then_mark ts (codes ";") (e (j + 1)) else bad j) (λ x k. good (f x) k)
    by false = refl
    by true = subst (λ z. ended ts e z f ≡ after (then_mark ts (codes ";") (e (j + 1))) (λ x k. good (f x) k)) (add-one j) (then_same ts (codes ";") (e (j + 1)) (λ x k. good (f x) k))

assigned_reads : {A : Type 0} (ts : List Kind) (E : ℕ → ℕ → Outcome Expr) (f : Expr → A) (j : ℕ) {x : Expr} {k : ℕ} {y : A} → Eventually (λ n. assigned_from ts (E n) j) (good x k) → y ≡ f x → Eventually (λ n. marked ts (codes "=") j (ended ts (E n) (suc j) f)) (good y k)
unfolding after
assigned_reads ts E f j {k = k} p e = by_one p (λ n d. assigned_same ts (E n) f j ∙ ap (λ z. after z (λ x k. good (f x) k)) d ∙ ap (λ z. good z k) (sym e))

assigned_fails : {A : Type 0} (ts : List Kind) (E : ℕ → ℕ → Outcome Expr) (f : Expr → A) (j : ℕ) {k : ℕ} → Eventually (λ n. assigned_from ts (E n) j) (bad k) → Eventually (λ n. marked ts (codes "=") j (ended ts (E n) (suc j) f)) (bad k)
unfolding after
assigned_fails ts E f j p = by_one p (λ n d. assigned_same ts (E n) f j ∙ ap (λ z. after z (λ x k. good (f x) k)) d)

-- ---- statements that end with an expression

pub ended_made : (ts : List Kind) (i : ℕ) (make : Expr → Stmt) (read : Result (CodeExpr × ℕ) Stop) (result : Result (CodeStmt × ℕ) Stop) → AgreesDeep (λ n. then_mark ts (codes ";") (expr_from ts n of_expr i)) expr_of read → Makes expr_of stmt_of make read result → AgreesDeep (λ n. ended ts (expr_from ts n of_expr) i make) stmt_of result
ended_made ts i make read result p e = agrees_as (λ n. then_same ts (codes ";") (expr_from ts n of_expr i) (λ x k. good (make x) k)) (agrees_made (λ n. then_mark ts (codes ";") (expr_from ts n of_expr i)) expr_of stmt_of make read result p e)

assigned_made : (ts : List Kind) (j : ℕ) (make : Expr → Stmt) (read : Result (CodeExpr × ℕ) Stop) (result : Result (CodeStmt × ℕ) Stop) → AgreesDeep (λ n. assigned_from ts (expr_from ts n of_expr) j) expr_of read → Makes expr_of stmt_of make read result → AgreesDeep (λ n. marked ts (codes "=") j (ended ts (expr_from ts n of_expr) (suc j) make)) stmt_of result
assigned_made ts j make read result p e = agrees_as (λ n. assigned_same ts (expr_from ts n of_expr) make j) (agrees_made (λ n. assigned_from ts (expr_from ts n of_expr) j) expr_of stmt_of make read result p e)

pub let_agrees : (ts : List Kind) (i at : ℕ) {p : Param} {j : ℕ} (read : Result (CodeExpr × ℕ) Stop) (result : Result (CodeStmt × ℕ) Stop) → at ≡ i → param_from ts (i + 1) ≡ good p j → AgreesDeep (λ n. assigned_from ts (expr_from ts n of_expr) j) expr_of read → Makes expr_of stmt_of (λ x. let_ at p.name p.width x) read result → AgreesDeep (λ n. let_from ts (expr_from ts n of_expr) i) stmt_of result
unfolding let_from
let_agrees ts i at {p = p} {j = j} read result s q r e = after_read (λ n p j. marked ts (codes "=") j (ended ts (expr_from ts n of_expr) (suc j) (λ x. let_ i p.name p.width x))) stmt_of (flat (λ n. subst (λ z. param_from ts z ≡ good p j) (add-one i) q)) (assigned_made ts j (λ x. let_ i p.name p.width x) read result r (subst (λ z. Makes expr_of stmt_of (λ x. let_ z p.name p.width x) read result) s e))

pub setting_agrees : (ts : List Kind) (i at : ℕ) {p : Path} {j : ℕ} (read : Result (CodeExpr × ℕ) Stop) (result : Result (CodeStmt × ℕ) Stop) → at ≡ i → path_from ts i ≡ good p j → AgreesDeep (λ n. assigned_from ts (expr_from ts n of_expr) j) expr_of read → Makes expr_of stmt_of (λ x. set_field at p.header p.field x) read result → AgreesDeep (λ n. setting_from ts (expr_from ts n of_expr) i) stmt_of result
unfolding setting_from
setting_agrees ts i at {p = p} {j = j} read result s q r e = after_read (λ n p j. marked ts (codes "=") j (ended ts (expr_from ts n of_expr) (suc j) (λ x. set_field i p.header p.field x))) stmt_of (flat (λ n. q)) (assigned_made ts j (λ x. set_field i p.header p.field x) read result r (subst (λ z. Makes expr_of stmt_of (λ x. set_field z p.header p.field x) read result) s e))

-- ---- havocs

pub havoc_field_agrees : (ts : List Kind) (i at : ℕ) (read one : Result ((CodeName × CodeName) × ℕ) Stop) (result : Result (CodeStmt × ℕ) Stop) → at ≡ i → Agrees (path_from ts (i + 1)) path_of read → one ≡ with_mark ts (codes ";") read → Makes path_of stmt_of (λ p. havoc_field at p.header p.field) one result → Agrees (havoc_field_from ts i) stmt_of result
havoc_field_agrees ts i at read one result s p q e = once (agrees_as (λ n. then_same ts (codes ";") (path_from ts (suc i)) (λ p k. good (havoc_field i p.header p.field) k))
    (agrees_made (λ n. then_mark ts (codes ";") (path_from ts (suc i))) path_of stmt_of (λ p. havoc_field i p.header p.field) one result
    (agrees_marked ts (codes ";") (λ n. path_from ts (suc i)) path_of read one (at_once (subst (λ z. Agrees (path_from ts z) path_of read) (add-one i) p)) q)
    (subst (λ z. Makes path_of stmt_of (λ p. havoc_field z p.header p.field) one result) s e)))

pub havoc_variable_agrees : (ts : List Kind) (i at : ℕ) (read one : Result (CodeParam × ℕ) Stop) (result : Result (CodeStmt × ℕ) Stop) → at ≡ i → Agrees (param_from ts (i + 1)) param_of read → one ≡ with_mark ts (codes ";") read → Makes param_of stmt_of (λ p. havoc_var at p.name p.width) one result → Agrees (havoc_variable_from ts i) stmt_of result
havoc_variable_agrees ts i at read one result s p q e = once (agrees_as (λ n. then_same ts (codes ";") (param_from ts (suc i)) (λ p k. good (havoc_var i p.name p.width) k))
    (agrees_made (λ n. then_mark ts (codes ";") (param_from ts (suc i))) param_of stmt_of (λ p. havoc_var i p.name p.width) one result
    (agrees_marked ts (codes ";") (λ n. param_from ts (suc i)) param_of read one (at_once (subst (λ z. Agrees (param_from ts z) param_of read) (add-one i) p)) q)
    (subst (λ z. Makes param_of stmt_of (λ p. havoc_var z p.name p.width) one result) s e)))

pub body_reads : (ts : List Kind) (i : ℕ) {x : Expr} {k : ℕ} → is_mark (codes ";") (slice_get ts i) ≡ false → Eventually (λ n. assigned_from ts (expr_from ts n of_expr) i) (good x k) → Eventually (λ n. body_from ts n i) (good (Some x) k)
unfolding body_from
body_reads ts i q d = by_one (assigned_reads ts (λ n. expr_from ts n of_expr) (λ x. Some x) i d refl) (λ n e. rw q e)

pub body_fails : (ts : List Kind) (i : ℕ) {k : ℕ} → is_mark (codes ";") (slice_get ts i) ≡ false → Eventually (λ n. assigned_from ts (expr_from ts n of_expr) i) (bad k) → Eventually (λ n. body_from ts n i) (bad k)
unfolding body_from
body_fails ts i q d = by_one (assigned_fails ts (λ n. expr_from ts n of_expr) (λ x. Some x) i d) (λ n e. rw q e)

-- ---- assumptions

pub assumption_reads : (ts : List Kind) (i : ℕ) {ps : List Param} {j : ℕ} {x : Expr} {k : ℕ} {y : Decl} → is_mark (codes "(") (slice_get ts (i + 1)) ≡ true → Eventually (λ n. optional_params_from ts n (i + 2)) (good ps j) → is_mark (codes ")") (slice_get ts j) ≡ true
    → Eventually (λ n. then_mark ts (codes ";") (expr_from ts n of_expr (j + 1))) (good x k) → y ≡ an_assumption (record { at = i; params = ps; body = x }) → Eventually (λ n. assumption_from ts n i) (good y k)
unfolding assumption_from after marked
assumption_reads ts i {ps = ps} {j = j} t p c d y = by_two p (ended_reads ts (λ n. expr_from ts n of_expr) (λ e. an_assumption (record { at = i; params = ps; body = e })) (j + 1) (suc j) (add-one j) d y) (λ n e g. rw (t, e, c) g)

pub assumption_fails : (ts : List Kind) (i : ℕ) {ps : List Param} {j k : ℕ} → is_mark (codes "(") (slice_get ts (i + 1)) ≡ true → Eventually (λ n. optional_params_from ts n (i + 2)) (good ps j) → is_mark (codes ")") (slice_get ts j) ≡ true
    → Eventually (λ n. then_mark ts (codes ";") (expr_from ts n of_expr (j + 1))) (bad k) → Eventually (λ n. assumption_from ts n i) (bad k)
unfolding assumption_from after marked
assumption_fails ts i {ps = ps} {j = j} t p c d = by_two p (ended_fails ts (λ n. expr_from ts n of_expr) (λ e. an_assumption (record { at = i; params = ps; body = e })) (j + 1) (suc j) (add-one j) d) (λ n e g. rw (t, e, c) g)

-- ---- hosts and switches

pub host_reads : (ts : List Kind) (i : ℕ) {x y : Name} → ((f : Name → Name → Outcome Decl) → paired ts i f ≡ f x y) → is_mark (codes ";") (slice_get ts (i + 6)) ≡ true → host_from ts i ≡ good (a_host (record { at = i; entry = x; sink = y })) (i + 7)
unfolding host_from marked
host_reads ts i p t = p _ ∙ rw t refl

pub host_pair_fails : (ts : List Kind) (i : ℕ) (s : Stop) {result : Result (CodeDecl × ℕ) Stop} → PairAt ts i (Err s) → result ≡ Err s → Agrees (host_from ts i) decl_of result
unfolding host_from
host_pair_fails ts i s p e = subst (Agrees (host_from ts i) decl_of) (sym e) (by s p)
  where
    by : (s : Stop) → PairAt ts i (Err s) → Agrees {A = CodeDecl} (host_from ts i) decl_of (Err s)
    by (Unexpected k) p = p _
    by NoMemory p = tt

pub host_end_fails : (ts : List Kind) (i : ℕ) {x y : Name} → ((f : Name → Name → Outcome Decl) → paired ts i f ≡ f x y) → is_mark (codes ";") (slice_get ts (i + 6)) ≡ false → host_from ts i ≡ bad (i + 6)
unfolding host_from marked
host_end_fails ts i p t = p _ ∙ rw t refl

-- the rest of a switch, from the ports on
abbrev rest_of_switch : ℕ → Name → Name → ℕ → Outcome Decl
rest_of_switch i x y p = good (a_switch (record { at = i; into = x; out = y; ports = p })) (i + 9)

switch_same : (ts : List Kind) (i : ℕ) → switch_from ts i ≡ paired ts i (λ x y. counted ts (i + 6) (rest_of_switch i x y))
unfolding switch_from
switch_same ts i = ap (λ z. at z (i + 8)) add_7 ∙ ap (λ z. at (i + 6 + 1) z) add_8
  where
    at : ℕ → ℕ → Outcome Decl
    at a b = paired ts i (λ x y. reserved ts (codes "ports") (i + 6) (numbered ts a (λ p. marked ts (codes ";") b (rest_of_switch i x y p))))

    add_7 : i + 7 ≡ i + 6 + 1
    add_7 = omega arith

    add_8 : i + 8 ≡ i + 6 + 2
    add_8 = omega arith

pub switch_reads : (ts : List Kind) (i : ℕ) {x y : Name} {n : ℕ} → ((f : Name → Name → Outcome Decl) → paired ts i f ≡ f x y) → ((f : ℕ → Outcome Decl) → counted ts (i + 6) f ≡ f n) → switch_from ts i ≡ good (a_switch (record { at = i; into = x; out = y; ports = n })) (i + 9)
switch_reads ts i {x = x} {y = y} p q = switch_same ts i ∙ p (λ x y. counted ts (i + 6) (rest_of_switch i x y)) ∙ q (rest_of_switch i x y)

pub switch_pair_fails : (ts : List Kind) (i : ℕ) (s : Stop) {result : Result (CodeDecl × ℕ) Stop} → PairAt ts i (Err s) → result ≡ Err s → Agrees (switch_from ts i) decl_of result
switch_pair_fails ts i s p e = subst (Agrees (switch_from ts i) decl_of) (sym e) (by s p)
  where
    by : (s : Stop) → PairAt ts i (Err s) → Agrees {A = CodeDecl} (switch_from ts i) decl_of (Err s)
    by (Unexpected k) p = switch_same ts i ∙ p (λ x y. counted ts (i + 6) (rest_of_switch i x y))
    by NoMemory p = tt

pub switch_ports_fail : (ts : List Kind) (i : ℕ) (s : Stop) {x y : Name} {result : Result (CodeDecl × ℕ) Stop} → ((f : Name → Name → Outcome Decl) → paired ts i f ≡ f x y) → PortsAt ts (i + 6) (Err s) → result ≡ Err s → Agrees (switch_from ts i) decl_of result
switch_ports_fail ts i s {x = x} {y = y} q p e = subst (Agrees (switch_from ts i) decl_of) (sym e) (by s p)
  where
    by : (s : Stop) → PortsAt ts (i + 6) (Err s) → Agrees {A = CodeDecl} (switch_from ts i) decl_of (Err s)
    by (Unexpected k) p = switch_same ts i ∙ q (λ x y. counted ts (i + 6) (rest_of_switch i x y)) ∙ p (rest_of_switch i x y)
    by NoMemory p = tt
