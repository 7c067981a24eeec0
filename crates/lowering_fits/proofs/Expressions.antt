-- Lowered expressions have few operators, and so have all that their code computes.
use Rattle.std.specs.Prelude.{◌≡◌, ℕ, suc, ◌+◌, ◌*◌, ◌≤◌, Bool, true, false, cond, List, [], ◌∷◌, ◌++◌, Option, Some, None, refl}
use Rattle.std.proofs.Common.{arith}
use Rattle.cocoon_num.specs.Names.{same_name}
use Rattle.cocoon_num.specs.Values.{BinaryOp, implies}
use Rattle.cocoon_num.specs.Tree.{Param, Expr, name, field, lit, true_or_false, call, unary, binary, slice, pick, Exprs, no_exprs, expr, FunctionDecl, HeaderDecl, ResultKind, of_width, of_truth}
use Rattle.p4_ir.specs.P4Tree.{P4Expr, P4Stmt, set_meta, apply_table}
use Rattle.p4_ir.specs.Program.{block_of}
use Rattle.p4_kinds.specs.Flat.{operators_in as weight, FewOperators as Light, FlatBlock}
use Rattle.lowering.specs.Lower.{Counts, Variable, Lowered, Callees, callees, variable_expr, p_operation, lower_expr, lower_exprs, lower_call, lower_group, by_table, by_group, closed, after_args, variables_from, sets, kept, read_back, past}
use Rattle.lowering_fits.specs.ShallowTrees.{operators_in, operators_in_all, FewOperators, FewInBody}

-- ---- code

-- statements, one after another, that are flat
abbrev pub FlatCode : (n : ℕ) → List P4Stmt → Type 0
FlatCode n code = FlatBlock n (block_of code)

pub flat_append : (n : ℕ) (xs ys : List P4Stmt) → FlatCode n xs → FlatCode n ys → FlatCode n (xs ++ ys)
flat_append n [] ys h k = k
flat_append n (x ∷ xs) ys h k = (h.0, flat_append n xs ys h.1 k)

abbrev pub AllLight : List P4Expr → Type 0
AllLight [] = Unit {0}
AllLight (e ∷ es) = Light e × AllLight es

-- variables that are read without operators
abbrev pub Atoms : List Variable → Type 0
Atoms [] = Unit {0}
Atoms (v ∷ vars) = (weight v.expr ≡ 0) × Atoms vars

-- a call: what is set before it, over light arguments, and what it is read as
pub record LightCall (es : List P4Expr) (r : Lowered) : Type 0 where
  pub code : AllLight es → (n : ℕ) → FlatCode n r.code
  pub expr : weight r.expr ≤ 1

abbrev pub CallsLight : Callees → Type 0
CallsLight c = ((f : List ℕ) (es : List P4Expr) (n : Counts) → LightCall es (c.call f es n)) × ((f : List ℕ) (es : List P4Expr) (n : Counts) → LightCall es (c.group f es n))

-- ---- expressions

either_weight : (b : Bool) (x y : P4Expr) → weight x ≡ 0 → weight y ≡ 0 → weight (cond b x y) ≡ 0
either_weight true x y h k = h
either_weight false x y h k = k

variable_weight : (vars : List Variable) (x : List ℕ) → Atoms vars → weight (variable_expr vars x) ≡ 0
variable_weight [] x h = refl
variable_weight (v ∷ vars) x h = either_weight (same_name x v.name) v.expr (variable_expr vars x) h.0 (variable_weight vars x h.1)

operation_weight : (op : BinaryOp) (a b : P4Expr) → weight (p_operation op a b) ≤ 2 + weight a + weight b
operation_weight implies a b = omega arith
operation_weight op a b = omega arith

pub expr_weight : (c : Callees) → CallsLight c → (vars : List Variable) → Atoms vars → (n : Counts) (e : Expr) → weight (lower_expr c vars n e).expr ≤ 3 * operators_in e + 1
expr_weight c g vars v n (name at x) = omega (arith, variable_weight vars x v)
expr_weight c g vars v n (field at h f) = omega arith
expr_weight c g vars v n (lit at w x) = omega arith
expr_weight c g vars v n (true_or_false at b) = omega arith
expr_weight c g vars v n (call at f es) = omega (arith, (g.0 f.text (lower_exprs c vars n es).exprs (lower_exprs c vars n es).next).expr)
expr_weight c g vars v n (unary at op a) = omega (arith, expr_weight c g vars v n a)
expr_weight c g vars v n (binary at op a b) =
    let k = (lower_expr c vars n a).next in
    omega (arith, expr_weight c g vars v n a, expr_weight c g vars v k b, operation_weight op (lower_expr c vars n a).expr (lower_expr c vars k b).expr)
expr_weight c g vars v n (slice at a high low) = omega (arith, expr_weight c g vars v n a)
expr_weight c g vars v n (pick at e a b) =
    let k = (lower_expr c vars n e).next in
    omega (arith, expr_weight c g vars v n e, expr_weight c g vars v k a, expr_weight c g vars v (lower_expr c vars k a).next b)

pub expr_light : (c : Callees) → CallsLight c → (vars : List Variable) → Atoms vars → (n : Counts) (e : Expr) → FewOperators e → weight (lower_expr c vars n e).expr ≤ 385
expr_light c g vars v n e h = omega (arith, expr_weight c g vars v n e, h)

pub exprs_light : (c : Callees) → CallsLight c → (vars : List Variable) → Atoms vars → (n : Counts) (es : Exprs) → operators_in_all es ≤ 128 → AllLight (lower_exprs c vars n es).exprs
exprs_light c g vars v n no_exprs h = tt
exprs_light c g vars v n (expr e es) h =
    (omega (arith, expr_light c g vars v n e (omega (arith, h))), exprs_light c g vars v (lower_expr c vars n e).next es (omega (arith, h)))

mutual
  pub expr_flat : (c : Callees) → CallsLight c → (vars : List Variable) → Atoms vars → (n : Counts) (e : Expr) → FewOperators e → (m : ℕ) → FlatCode m (lower_expr c vars n e).code
  expr_flat c g vars v n (name at x) h m = tt
  expr_flat c g vars v n (field at x f) h m = tt
  expr_flat c g vars v n (lit at w x) h m = tt
  expr_flat c g vars v n (true_or_false at b) h m = tt
  expr_flat c g vars v n (call at f es) h m =
      flat_append m (lower_exprs c vars n es).code _ (exprs_flat c g vars v n es h m)
      ((g.0 f.text (lower_exprs c vars n es).exprs (lower_exprs c vars n es).next).code (exprs_light c g vars v n es h) m)
  expr_flat c g vars v n (unary at op a) h m = expr_flat c g vars v n a (omega (arith, h)) m
  expr_flat c g vars v n (binary at op a b) h m =
      flat_append m (lower_expr c vars n a).code _ (expr_flat c g vars v n a (omega (arith, h)) m) (expr_flat c g vars v (lower_expr c vars n a).next b (omega (arith, h)) m)
  expr_flat c g vars v n (slice at a high low) h m = expr_flat c g vars v n a (omega (arith, h)) m
  expr_flat c g vars v n (pick at e a b) h m =
      let k = (lower_expr c vars n e).next in
      flat_append m (lower_expr c vars n e).code _ (expr_flat c g vars v n e (omega (arith, h)) m)
      (flat_append m (lower_expr c vars k a).code _ (expr_flat c g vars v k a (omega (arith, h)) m) (expr_flat c g vars v (lower_expr c vars k a).next b (omega (arith, h)) m))

  pub exprs_flat : (c : Callees) → CallsLight c → (vars : List Variable) → Atoms vars → (n : Counts) (es : Exprs) → operators_in_all es ≤ 128 → (m : ℕ) → FlatCode m (lower_exprs c vars n es).code
  exprs_flat c g vars v n no_exprs h m = tt
  exprs_flat c g vars v n (expr e es) h m =
      flat_append m (lower_expr c vars n e).code _ (expr_flat c g vars v n e (omega (arith, h)) m) (exprs_flat c g vars v (lower_expr c vars n e).next es (omega (arith, h)) m)

-- ---- calls

pub sets_flat : (i : ℕ) (es : List P4Expr) → AllLight es → (m : ℕ) → FlatCode m (sets i es)
sets_flat i [] h m = tt
sets_flat i (e ∷ es) h m = (h.0, sets_flat (suc i) es h.1 m)

kept_weight : (k : ResultKind) (e : P4Expr) → weight (kept k e) ≤ 2 + weight e
kept_weight (of_width w) e = omega arith
kept_weight of_truth e = omega arith

read_weight : (k : ResultKind) (i : ℕ) → weight (read_back k i) ≤ 1
read_weight (of_width w) i = omega arith
read_weight of_truth i = omega arith

params_atoms : (i : ℕ) (ps : List Param) → Atoms (variables_from i ps)
params_atoms i [] = tt
params_atoms i (p ∷ ps) = (refl, params_atoms (suc i) ps)

table_light : (d : FunctionDecl) (es : List P4Expr) (n : Counts) → LightCall es (by_table d es n)
table_light d es n = record {
  code = λ h m. flat_append m (sets n.field es) (apply_table n.app ∷ []) (sets_flat n.field es h m) (tt, tt);
  expr = read_weight d.result (past n.field d.params);
}

group_light : (d : FunctionDecl) (es : List P4Expr) (n : Counts) → LightCall es (by_group d es n)
group_light d es n = record {
  code = λ h m. flat_append m (sets n.field es) (apply_table n.app ∷ []) (sets_flat n.field es h m) (tt, tt);
  expr = omega arith;
}

closed_light : (c : Callees) → CallsLight c → (d : FunctionDecl) (es : List P4Expr) (n : Counts) (e : Expr) → FewOperators e
    → LightCall es (closed d es n (lower_expr c (variables_from n.field d.params) (after_args d n) e))
closed_light c g d es n e h =
    let vars = variables_from n.field d.params in
    let v = params_atoms n.field d.params in
    let r = lower_expr c vars (after_args d n) e in
    record {
      code = λ l m. flat_append m (sets n.field es) _ (sets_flat n.field es l m)
          (flat_append m r.code (set_meta r.next.field (kept d.result r.expr) ∷ []) (expr_flat c g vars v (after_args d n) e h m)
          (omega (arith, kept_weight d.result r.expr, expr_light c g vars v (after_args d n) e h), tt));
      expr = read_weight d.result r.next.field;
    }

-- functions whose bodies have few operators
abbrev pub FewFunctions : List FunctionDecl → Type 0
FewFunctions [] = Unit {0}
FewFunctions (f ∷ fs) = FewInBody f.body × FewFunctions fs

either_light : (b : Bool) {es : List P4Expr} (X Y : Lowered) → LightCall es X → LightCall es Y → LightCall es (cond b X Y)
either_light true X Y h g = h
either_light false X Y h g = g

abbrev lowered_by : List HeaderDecl → List FunctionDecl → FunctionDecl → List P4Expr → Counts → Option Expr → Lowered
lowered_by headers earlier d es n body = elim body [
  | None ↦ by_table d es n
  | Some e ↦ closed d es n (lower_expr (record { headers = headers; call = lower_call headers earlier; group = lower_group earlier; port = [] }) (variables_from n.field d.params) (after_args d n) e)
]

body_light : (headers : List HeaderDecl) (earlier : List FunctionDecl) → CallsLight (callees headers earlier []) → (d : FunctionDecl) (es : List P4Expr) (n : Counts) (body : Option Expr) → FewInBody body
    → LightCall es (lowered_by headers earlier d es n body)
body_light headers earlier g d es n None h = table_light d es n
body_light headers earlier g d es n (Some e) h = closed_light (callees headers earlier []) g d es n e h

groups_light : (fs : List FunctionDecl) (f : List ℕ) (es : List P4Expr) (n : Counts) → LightCall es (lower_group fs f es n)
groups_light [] f es n = record { code = λ h m. tt; expr = omega arith }
groups_light (d ∷ earlier) f es n = either_light (same_name f d.name.text) (by_group d es n) (lower_group earlier f es n) (group_light d es n) (groups_light earlier f es n)

call_light : (headers : List HeaderDecl) (fs : List FunctionDecl) → FewFunctions fs → (f : List ℕ) (es : List P4Expr) (n : Counts) → LightCall es (lower_call headers fs f es n)
call_light headers [] h f es n = record { code = λ l m. tt; expr = omega arith }
call_light headers (d ∷ earlier) h f es n =
    either_light (same_name f d.name.text) (lowered_by headers earlier d es n d.body) (lower_call headers earlier f es n)
    (body_light headers earlier ((λ f es n. call_light headers earlier h.1 f es n), (λ f es n. groups_light earlier f es n)) d es n d.body h.0) (call_light headers earlier h.1 f es n)

pub calls_light : (headers : List HeaderDecl) (fs : List FunctionDecl) (port : List ℕ) → FewFunctions fs → CallsLight (callees headers fs port)
calls_light headers fs port h = (call_light headers fs h, groups_light fs)
