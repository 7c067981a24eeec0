-- Functions and roles, part by part.
use Rattle.std.specs.Prelude.{◌≡◌, ℕ, suc, ◌+◌, Bool, true, false, List, map, slice_get, Result, Ok, Option, Some, None, if◌then◌else◌, codes, refl}
use Rattle.std.proofs.Common.{Vec, Global, ◌∙◌, ap, arith}
use Rattle.cocoon_num.specs.Tokens.{Kind}
use Rattle.cocoon_num.specs.Tree.{Block, Decl, Expr, Name, Param, ResultKind, a_function, a_role}
use Rattle.cocoon_syntax.specs.TreeOf.{decl_of, name_of, param_of}
use Rattle.cocoon_syntax.specs.declared.decl.Decl.{Decl as CodeDecl}
use Rattle.cocoon_syntax.specs.declared.decl.Param.{Param as CodeParam}
use Rattle.cocoon_syntax.specs.declared.decl.ResultKind.{ResultKind as CodeResultKind}
use Rattle.cocoon_syntax.specs.declared.expr.Expr.{Expr as CodeExpr}
use Rattle.cocoon_syntax.specs.declared.stmt.Stmt.{Stmt as CodeStmt}
use Rattle.cocoon_syntax.specs.declared.name.Name.{Name as CodeName}
use Rattle.parsing.specs.PlainParser.{Outcome, good, bad, spent, after, marked, named, taken, name_at, is_mark, params_from, result_from, body_from, role_body_from, expr_from, function_from, role_from}
use Rattle.cocoon_num.specs.Reads.{of_expr}
use Rattle.cocoon_text.specs.ExprPhrases.{then_mark}
use Rattle.cocoon_text.specs.Phrases.{Head, head_from, head_of, Answer, answer_from, answer_of, Duty, duty_from, duty_of}
use Rattle.cocoon_text.specs.Agrees.{AgreesDeep}
use Rattle.parsing.specs.Joins.{Makes}
use Rattle.parsing.specs.declared.stop.Stop.{Stop}
use Rattle.cocoon_text.proofs.Eventually.{Eventually, by_one, eventual_read, agrees_as, agrees_made, after_read}

abbrev head : Name → List Param → ℕ → Outcome Head
head x ps j = good (record { name = x; params = ps }) j

abbrev answer : ResultKind → Option Expr → ℕ → Outcome Answer
answer r b k = good (record { kind = r; body = b }) k

abbrev duty : Expr → Option Block → ℕ → Outcome Duty
duty e b k = good (record { guard = e; body = b }) k

abbrev function_of : Name → List Param → ResultKind → Option Expr → ℕ → Outcome Decl
function_of x ps r b l = good (a_function (record { name = x; params = ps; result = r; body = b })) l

abbrev role_of : Name → List Param → Expr → Option Block → ℕ → Outcome Decl
role_of x ps e b l = good (a_role (record { name = x; params = ps; guard = e; body = b })) l

-- a name, its parameters and three marks, one by one or as a head
head_same : {A : Type 0} (ts : List Kind) (n : ℕ) (left right last : List ℕ) (i : ℕ) (K : Name → List Param → ℕ → Outcome A) →
    named ts (i + 1) (λ x. marked ts left (i + 2) (after (params_from ts n (i + 3)) (λ ps j. marked ts right j (marked ts last (j + 1) (K x ps (j + 2)))))) ≡ after (head_from ts n left right last (i + 1)) (λ h j. K h.name h.params j)
unfolding after marked named
head_same ts n left right last i K = by (name_at (i + 1) (slice_get ts (i + 1)))
  where
    shift : (x : Name) (ps : List Param) (j : ℕ) (t : Bool) → is_mark last (slice_get ts (suc j)) ≡ t → marked ts last (j + 1) (K x ps (j + 2)) ≡ (if t then K x ps (suc (suc j)) else bad (suc j))
    shift x ps j t q = ap (λ z. marked ts last z (K x ps (j + 2))) (let e : j + 1 ≡ suc j = omega arith in e) ∙ ap (λ z. if is_mark last (slice_get ts (suc j)) then K x ps z else bad (suc j)) (let e : j + 2 ≡ suc (suc j) = omega arith in e) ∙ ap (λ z. if z then K x ps (suc (suc j)) else bad (suc j)) q

    third : (x : Name) (ps : List Param) (j : ℕ) (t : Bool) → is_mark last (slice_get ts (suc j)) ≡ t → marked ts last (j + 1) (K x ps (j + 2)) ≡ after (after (if t then good ps (suc (suc j)) else bad (suc j)) (head x)) (λ h j. K h.name h.params j)
    third x ps j true q = shift x ps j true q
    third x ps j false q = shift x ps j false q

    second : (x : Name) (ps : List Param) (j : ℕ) (t : Bool) → (if t then marked ts last (j + 1) (K x ps (j + 2)) else bad j) ≡ after (after (then_mark ts last (if t then good ps (suc j) else bad j)) (head x)) (λ h j. K h.name h.params j)
    second x ps j true = third x ps j (is_mark last (slice_get ts (suc j))) refl
    second x ps j false = refl

    first : (x : Name) (r : Outcome (List Param)) → after r (λ ps j. marked ts right j (marked ts last (j + 1) (K x ps (j + 2)))) ≡ after (after (then_mark ts last (then_mark ts right r)) (head x)) (λ h j. K h.name h.params j)
    first x (good ps j) = second x ps j (is_mark right (slice_get ts j))
    first x (bad m) = refl
    first x spent = refl

    opened : (x : Name) (t : Bool) → (if t then after (params_from ts n (i + 1 + 2)) (λ ps j. marked ts right j (marked ts last (j + 1) (K x ps (j + 2)))) else bad (i + 1 + 1)) ≡ after (if t then after (then_mark ts last (then_mark ts right (params_from ts n (i + 1 + 2)))) (head x) else bad (i + 1 + 1)) (λ h j. K h.name h.params j)
    opened x true = first x (params_from ts n (i + 1 + 2))
    opened x false = refl

    moved : (x : Name) → marked ts left (i + 2) (after (params_from ts n (i + 3)) (λ ps j. marked ts right j (marked ts last (j + 1) (K x ps (j + 2))))) ≡ marked ts left (i + 1 + 1) (after (params_from ts n (i + 1 + 2)) (λ ps j. marked ts right j (marked ts last (j + 1) (K x ps (j + 2)))))
    moved x = ap (λ z. marked ts left z (after (params_from ts n (i + 3)) (λ ps j. marked ts right j (marked ts last (j + 1) (K x ps (j + 2)))))) (let e : i + 2 ≡ i + 1 + 1 = omega arith in e)
        ∙ ap (λ z. marked ts left (i + 1 + 1) (after (params_from ts n z) (λ ps j. marked ts right j (marked ts last (j + 1) (K x ps (j + 2)))))) (let e : i + 3 ≡ i + 1 + 2 = omega arith in e)

    by : (o : Option Name) → taken o (i + 1) (λ x. marked ts left (i + 2) (after (params_from ts n (i + 3)) (λ ps j. marked ts right j (marked ts last (j + 1) (K x ps (j + 2)))))) ≡
        after (taken o (i + 1) (λ x. marked ts left (i + 1 + 1) (after (then_mark ts last (then_mark ts right (params_from ts n (i + 1 + 2)))) (head x)))) (λ h j. K h.name h.params j)
    by None = refl
    by (Some x) = moved x ∙ opened x (is_mark left (slice_get ts (i + 1 + 1)))

-- ---- functions

answer_same : (ts : List Kind) (n : ℕ) (x : Name) (ps : List Param) (j : ℕ) → after (result_from ts j) (λ r k. after (body_from ts n k) (function_of x ps r)) ≡ after (answer_from ts n j) (λ a. function_of x ps a.kind a.body)
unfolding after
answer_same ts n x ps j = elim (result_from ts j) as (λ r. after r (λ r k. after (body_from ts n k) (function_of x ps r)) ≡ after (after r (λ r j. after (body_from ts n j) (answer r))) (λ a. function_of x ps a.kind a.body)) [
  | good r k ↦ elim (body_from ts n k) as (λ z. after z (function_of x ps r) ≡ after (after z (answer r)) (λ a. function_of x ps a.kind a.body)) [
    | good b l ↦ refl
    | bad m ↦ refl
    | spent ↦ refl
  ]
  | bad m ↦ refl
  | spent ↦ refl
]

function_same : (ts : List Kind) (n i : ℕ) → function_from ts n i ≡ after (head_from ts n (codes "(") (codes ")") (codes ":") (i + 1)) (λ h j. after (result_from ts j) (λ r k. after (body_from ts n k) (function_of h.name h.params r)))
unfolding function_from
function_same ts n i = head_same ts n (codes "(") (codes ")") (codes ":") i (λ x ps j. after (result_from ts j) (λ r k. after (body_from ts n k) (function_of x ps r)))

pub function_agrees : (ts : List Kind) (i : ℕ) (p : CodeName × Vec CodeParam Global) {j : ℕ} (read : Result ((CodeResultKind × Option CodeExpr) × ℕ) Stop) (result : Result (CodeDecl × ℕ) Stop) → AgreesDeep (λ n. head_from ts n (codes "(") (codes ")") (codes ":") (i + 1)) head_of (Ok (p, j)) → AgreesDeep (λ n. answer_from ts n j) answer_of read →
    Makes answer_of decl_of (λ a. a_function (record { name = name_of p.0; params = map param_of p.1.items; result = a.kind; body = a.body })) read result → AgreesDeep (λ n. function_from ts n i) decl_of result
function_agrees ts i p {j = j} read result h q e = agrees_as (λ n. function_same ts n i)
    (after_read (λ n h j. after (result_from ts j) (λ r k. after (body_from ts n k) (function_of h.name h.params r))) decl_of (eventual_read head_of h)
    (agrees_as (λ n. answer_same ts n (name_of p.0) (map param_of p.1.items) j) (agrees_made (λ n. answer_from ts n j) answer_of decl_of (λ a. a_function (record { name = name_of p.0; params = map param_of p.1.items; result = a.kind; body = a.body })) read result q e)))

pub function_fails : (ts : List Kind) (i k : ℕ) → Eventually (λ n. head_from ts n (codes "(") (codes ")") (codes ":") (i + 1)) (bad k) → Eventually (λ n. function_from ts n i) (bad k)
unfolding after
function_fails ts i k p = by_one p (λ n e. function_same ts n i ∙ ap (λ z. after z (λ h j. after (result_from ts j) (λ r k. after (body_from ts n k) (function_of h.name h.params r)))) e)

-- ---- roles

duty_same : (ts : List Kind) (n : ℕ) (x : Name) (ps : List Param) (j : ℕ) → after (expr_from ts n of_expr j) (λ e k. after (role_body_from ts n k) (role_of x ps e)) ≡ after (duty_from ts n j) (λ d. role_of x ps d.guard d.body)
unfolding after
duty_same ts n x ps j = elim (expr_from ts n of_expr j) as (λ r. after r (λ e k. after (role_body_from ts n k) (role_of x ps e)) ≡ after (after r (λ e j. after (role_body_from ts n j) (duty e))) (λ d. role_of x ps d.guard d.body)) [
  | good r k ↦ elim (role_body_from ts n k) as (λ z. after z (role_of x ps r) ≡ after (after z (duty r)) (λ d. role_of x ps d.guard d.body)) [
    | good b l ↦ refl
    | bad m ↦ refl
    | spent ↦ refl
  ]
  | bad m ↦ refl
  | spent ↦ refl
]

role_same : (ts : List Kind) (n i : ℕ) → role_from ts n i ≡ after (head_from ts n (codes "[") (codes "]") (codes "|") (i + 1)) (λ h j. after (expr_from ts n of_expr j) (λ e k. after (role_body_from ts n k) (role_of h.name h.params e)))
unfolding role_from
role_same ts n i = head_same ts n (codes "[") (codes "]") (codes "|") i (λ x ps j. after (expr_from ts n of_expr j) (λ e k. after (role_body_from ts n k) (role_of x ps e)))

pub role_agrees : (ts : List Kind) (i : ℕ) (p : CodeName × Vec CodeParam Global) {j : ℕ} (read : Result ((CodeExpr × Option (Vec CodeStmt Global)) × ℕ) Stop) (result : Result (CodeDecl × ℕ) Stop) → AgreesDeep (λ n. head_from ts n (codes "[") (codes "]") (codes "|") (i + 1)) head_of (Ok (p, j)) → AgreesDeep (λ n. duty_from ts n j) duty_of read →
    Makes duty_of decl_of (λ d. a_role (record { name = name_of p.0; params = map param_of p.1.items; guard = d.guard; body = d.body })) read result → AgreesDeep (λ n. role_from ts n i) decl_of result
role_agrees ts i p {j = j} read result h q e = agrees_as (λ n. role_same ts n i)
    (after_read (λ n h j. after (expr_from ts n of_expr j) (λ e k. after (role_body_from ts n k) (role_of h.name h.params e))) decl_of (eventual_read head_of h)
    (agrees_as (λ n. duty_same ts n (name_of p.0) (map param_of p.1.items) j) (agrees_made (λ n. duty_from ts n j) duty_of decl_of (λ d. a_role (record { name = name_of p.0; params = map param_of p.1.items; guard = d.guard; body = d.body })) read result q e)))

pub role_fails : (ts : List Kind) (i k : ℕ) → Eventually (λ n. head_from ts n (codes "[") (codes "]") (codes "|") (i + 1)) (bad k) → Eventually (λ n. role_from ts n i) (bad k)
unfolding after
role_fails ts i k p = by_one p (λ n e. role_same ts n i ∙ ap (λ z. after z (λ h j. after (expr_from ts n of_expr j) (λ e k. after (role_body_from ts n k) (role_of h.name h.params e)))) e)
