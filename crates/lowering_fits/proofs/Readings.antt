-- The tree of a text none of whose tokens is deep is shallow.
use Rattle.std.specs.Prelude.{◌≡◌, ℕ, zero, suc, ◌+◌, ◌-◌, ◌≤◌, List, Option, codes, refl}
use Rattle.std.proofs.Common.{sym, subst, arith}
use Rattle.cocoon_num.specs.Values.{BinaryOp, add, sub, bits_and, bits_or, bits_xor, concat, equal, unequal, less, less_equal, greater, greater_equal, and_, or_, implies}
use Rattle.cocoon_num.specs.Tree.{Name, Expr, Exprs, Stmt, Block, Param, Decl, Refine, Design}
use Rattle.cocoon_num.specs.Tokens.{Kind, keyword, kinds, brackets_after}
use Rattle.cocoon_num.specs.Reads.{Is, Mark, Reserved, Named, Many, no_more, one_more, FieldAt, Level, of_expr, operator, ExprAt, RestAt, ExprsAt, no_implication, an_implication, a_chain, no_comparison, a_comparison, a_flip, a_not, no_unary, no_part, a_part, a_slice, a_variable, a_call, a_field, a_literal, a_true, a_false, in_brackets, a_pick, last_expr, more_exprs, ParamAt, StmtAt, a_let, a_setting, an_if, an_if_else, a_filter, a_havoc, a_field_havoc, an_assume, a_fork, a_send, StmtsAt, no_stmt, one_stmt, BlockAt, a_block, BodyAt, without_body, with_body, RoleBodyAt, no_block, its_block, DeclAt, the_function, the_assumption, the_role, the_host, the_switch, RefineAt, the_block, Reads}
use Rattle.lowering_fits.specs.ShallowTrees.{operators_in, operators_in_all, FewOperators, ShallowStmt, ShallowBlock, FewInBody, ShallowBody, ShallowDecl, ShallowDecls, ShallowRefines, IsShallowTree}
use Rattle.lowering_fits.proofs.Counted.{brackets_at, operators_at, Shallow, shallow, Passes, Silent, Counts, then_passes, fewer, ends_at, brackets_next, silent, counted, in_parentheses, slice_bounds}

-- ---- expressions

operator_counts : (op : BinaryOp) → Counts (operator op)
operator_counts add = ((λ b. refl), (λ o. refl))
operator_counts sub = ((λ b. refl), (λ o. refl))
operator_counts bits_and = ((λ b. refl), (λ o. refl))
operator_counts bits_or = ((λ b. refl), (λ o. refl))
operator_counts bits_xor = ((λ b. refl), (λ o. refl))
operator_counts concat = ((λ b. refl), (λ o. refl))
operator_counts equal = ((λ b. refl), (λ o. refl))
operator_counts unequal = ((λ b. refl), (λ o. refl))
operator_counts less = ((λ b. refl), (λ o. refl))
operator_counts less_equal = ((λ b. refl), (λ o. refl))
operator_counts greater = ((λ b. refl), (λ o. refl))
operator_counts greater_equal = ((λ b. refl), (λ o. refl))
operator_counts and_ = ((λ b. refl), (λ o. refl))
operator_counts or_ = ((λ b. refl), (λ o. refl))
operator_counts implies = ((λ b. refl), (λ o. refl))

by_operator : (ts : List Kind) (op : BinaryOp) (j : ℕ) → Is ts j (operator op) → Passes ts j (suc j) 1
by_operator ts op j h = counted ts j (suc j) (operator op) (operator_counts op) refl h

word : (ts : List Kind) (i : ℕ) (k : Kind) → Silent k → Is ts i k → Passes ts i (suc i) 0
word ts i k s h = silent ts i (suc i) k s refl h

-- a name and the parenthesis after it
field_passes : (ts : List Kind) (i : ℕ) (h f : Name) (j : ℕ) → FieldAt ts i h f j → Passes ts i j 0
field_passes ts i h f j (p, d, n, e, m, k) =
    let a = silent ts i (i + 1) _ ((λ x. refl), (λ x. refl)) (omega arith) p in
    let b = silent ts (i + 1) (i + 2) _ ((λ x. refl), (λ x. refl)) (omega arith) d in
    let c = silent ts (i + 2) (i + 3) _ ((λ x. refl), (λ x. refl)) (omega arith) n.0 in
    let g = silent ts (i + 3) (i + 4) _ ((λ x. refl), (λ x. refl)) (omega arith) e in
    let l = silent ts (i + 4) (i + 5) _ ((λ x. refl), (λ x. refl)) (omega arith) m.0 in
    ends_at (sym k) (then_passes a (then_passes b (then_passes c (then_passes g l))))

-- what comes after a first expression
record Follows (ts : List Kind) (a : Expr) (j : ℕ) (b : Expr) (n : ℕ) : Type 0 where
  brackets : brackets_at ts j ≤ brackets_at ts n
  operators : operators_at ts j + operators_in b ≤ operators_at ts n + operators_in a

mutual
  expr_passes : (ts : List Kind) {l : Level} {i j : ℕ} {a : Expr} → ExprAt ts l i a j → Passes ts i j (operators_in a)
  expr_passes ts (no_implication p) = expr_passes ts p
  expr_passes ts (an_implication {j = j} p o q) =
      fewer (omega arith) (then_passes (expr_passes ts p) (then_passes (by_operator ts implies j o) (expr_passes ts q)))
  expr_passes ts (a_chain e p r) =
      let x = expr_passes ts p in
      let y = rest_follows ts r in
      record { brackets = omega (arith, x.brackets, y.brackets); operators = omega (arith, x.operators, y.operators) }
  expr_passes ts (no_comparison p) = expr_passes ts p
  expr_passes ts (a_comparison {op = op} {j = j} c p o q) =
      fewer (omega arith) (then_passes (expr_passes ts p) (then_passes (by_operator ts op j o) (expr_passes ts q)))
  expr_passes ts (a_flip {i = i} m p) = fewer (omega arith) (then_passes (counted ts i (suc i) _ ((λ x. refl), (λ x. refl)) refl m) (expr_passes ts p))
  expr_passes ts (a_not {i = i} m p) = fewer (omega arith) (then_passes (counted ts i (suc i) _ ((λ x. refl), (λ x. refl)) refl m) (expr_passes ts p))
  expr_passes ts (no_unary p) = expr_passes ts p
  expr_passes ts (a_variable {i = i} n) = word ts i _ ((λ x. refl), (λ x. refl)) n
  expr_passes ts (a_call {i = i} {j = j} n o p c) =
      fewer (omega arith) (then_passes (silent ts i (i + 1) _ ((λ x. refl), (λ x. refl)) (omega arith) n.0) (in_parentheses ts (i + 1) (i + 2) j _ (omega arith) o (exprs_pass ts p) c))
  expr_passes ts (a_field {i = i} {j = j} {h = h} {f = f} p) = field_passes ts i h f j p
  expr_passes ts (a_literal {i = i} n) = word ts i _ ((λ x. refl), (λ x. refl)) n
  expr_passes ts (a_true {i = i} n) = word ts i _ ((λ x. refl), (λ x. refl)) n
  expr_passes ts (a_false {i = i} n) = word ts i _ ((λ x. refl), (λ x. refl)) n
  expr_passes ts (in_brackets {i = i} {j = j} o p c) = in_parentheses ts i (suc i) j _ refl o (expr_passes ts p) c
  expr_passes ts (a_pick {i = i} {j = j} {k = k} {l = l} o p m q n r c) =
      fewer (omega arith) (in_parentheses ts i (suc i) l _ refl o (then_passes (expr_passes ts p) (then_passes (counted ts j (suc j) _ ((λ x. refl), (λ x. refl)) refl m)
      (then_passes (expr_passes ts q) (then_passes (counted ts k (suc k) _ ((λ x. refl), (λ x. refl)) refl n) (expr_passes ts r))))) c)

  rest_follows : (ts : List Kind) {l : Level} {j n : ℕ} {a b : Expr} → RestAt ts l a j b n → Follows ts a j b n
  rest_follows ts no_part = record { brackets = omega arith; operators = omega arith }
  rest_follows ts (a_part {op = op} {j = j} e c o p r) =
      let x = by_operator ts op j o in
      let y = expr_passes ts p in
      let z = rest_follows ts r in
      record { brackets = omega (arith, x.brackets, y.brackets, z.brackets); operators = omega (arith, x.operators, y.operators, z.operators) }
  rest_follows ts (a_slice {j = j} {high = high} {low = low} o h m l c r) =
      let x = slice_bounds ts j high low o h m l c in
      let z = rest_follows ts r in
      record { brackets = omega (arith, x.brackets, z.brackets); operators = omega (arith, x.operators, z.operators) }

  exprs_pass : (ts : List Kind) {i j : ℕ} {es : Exprs} → ExprsAt ts i es j → Passes ts i j (operators_in_all es)
  exprs_pass ts (last_expr p) = fewer (omega arith) (expr_passes ts p)
  exprs_pass ts (more_exprs {j = j} p m q) = fewer (omega arith) (then_passes (expr_passes ts p) (then_passes (word ts j _ ((λ x. refl), (λ x. refl)) m) (exprs_pass ts q)))

few : (ts : List Kind) → Shallow ts → {l : Level} {i j : ℕ} {a : Expr} → ExprAt ts l i a j → FewOperators a
few ts s {l} {i} {j} p = omega (arith, (expr_passes ts p).operators, s.operators j)

few_all : (ts : List Kind) → Shallow ts → {i j : ℕ} {es : Exprs} → ExprsAt ts i es j → operators_in_all es ≤ 128
few_all ts s {i} {j} p = omega (arith, (exprs_pass ts p).operators, s.operators j)

-- ---- statements

quiet : (ts : List Kind) (i j : ℕ) (k : Kind) → ((b : ℕ) → brackets_after b k ≡ b) → j ≡ suc i → Is ts i k → brackets_at ts i ≤ brackets_at ts j
quiet ts i j k s e h = omega (arith, brackets_next ts i j k e h, s (brackets_at ts i))

param_kept : (ts : List Kind) (i : ℕ) (p : Param) (j : ℕ) → ParamAt ts i p j → brackets_at ts i ≤ brackets_at ts j
param_kept ts i p j (n, c, (b, o, w, m, e)) =
    let x = quiet ts i (i + 1) _ (λ x. refl) (omega arith) n.0 in
    let y = quiet ts (i + 1) (i + 2) _ (λ x. refl) (omega arith) c in
    let z = quiet ts (i + 2) (i + 2 + 1) _ (λ x. refl) (omega arith) b in
    let u = quiet ts (i + 2 + 1) (i + 2 + 2) _ (λ x. refl) (omega arith) o in
    let v = quiet ts (i + 2 + 2) (i + 2 + 3) _ (λ x. refl) (omega arith) w in
    let q = quiet ts (i + 2 + 3) (i + 2 + 4) _ (λ x. refl) (omega arith) m in
    subst (λ k. brackets_at ts i ≤ brackets_at ts k) (sym e) (omega (arith, x, y, z, u, v, q))

-- ( and what stands up to ) and ) itself
parentheses_kept : (ts : List Kind) (i k j : ℕ) → k ≡ suc i → Mark ts i (codes "(") → brackets_at ts k ≤ brackets_at ts j → Mark ts j (codes ")") → brackets_at ts i ≤ brackets_at ts (suc j)
parentheses_kept ts i k j e o p c =
    let a : brackets_at ts k ≡ suc (brackets_at ts i) = brackets_next ts i k _ e o in
    let b : brackets_at ts (suc j) ≡ brackets_at ts j - 1 = brackets_next ts j (suc j) _ refl c in
    omega (arith, a, b, p)

braces_kept : (ts : List Kind) (i j : ℕ) → Mark ts i (codes "{") → brackets_at ts (suc i) ≤ brackets_at ts j → Mark ts j (codes "}") → brackets_at ts i ≤ brackets_at ts (suc j)
braces_kept ts i j o p c =
    let a : brackets_at ts (suc i) ≡ suc (brackets_at ts i) = brackets_next ts i (suc i) _ refl o in
    let b : brackets_at ts (suc j) ≡ brackets_at ts j - 1 = brackets_next ts j (suc j) _ refl c in
    omega (arith, a, b, p)

send_kept : (ts : List Kind) (i j : ℕ) (r : Name) (es : Exprs) → Reserved ts i (codes "send") → Named ts (i + 1) r → Mark ts (i + 2) (codes "[") → ExprsAt ts (i + 3) es j
    → Mark ts j (codes "]") → Mark ts (j + 1) (codes ";") → brackets_at ts i ≤ brackets_at ts (j + 2)
send_kept ts i j r es w n o p c m =
    let x = quiet ts i (i + 1) _ (λ x. refl) (omega arith) w in
    let y = quiet ts (i + 1) (i + 2) _ (λ x. refl) (omega arith) n.0 in
    let a : brackets_at ts (i + 3) ≡ suc (brackets_at ts (i + 2)) = brackets_next ts (i + 2) (i + 3) _ (omega arith) o in
    let z = exprs_pass ts p in
    let b : brackets_at ts (j + 1) ≡ brackets_at ts j - 1 = brackets_next ts j (j + 1) _ (omega arith) c in
    let v = quiet ts (j + 1) (j + 2) _ (λ x. refl) (omega arith) m in
    omega (arith, x, y, a, z.brackets, b, v)

condition_kept : (ts : List Kind) (i j : ℕ) (e : Expr) (w : List ℕ) → ((b : ℕ) → brackets_after b (keyword w) ≡ b) → Reserved ts i w → Mark ts (i + 1) (codes "(") → ExprAt ts of_expr (i + 2) e j → Mark ts j (codes ")") → brackets_at ts i ≤ brackets_at ts (suc j)
condition_kept ts i j e w s h o p c =
    let x = quiet ts i (i + 1) (keyword w) s (omega arith) h in
    let y = parentheses_kept ts (i + 1) (i + 2) j (omega arith) o (expr_passes ts p).brackets c in
    omega (arith, x, y)

fork_kept : (ts : List Kind) (i j k : ℕ) (p : Param) → Reserved ts i (codes "fork") → Mark ts (i + 1) (codes "(") → ParamAt ts (i + 2) p j → Mark ts j (codes "|") → brackets_at ts (suc j) ≤ brackets_at ts k → Mark ts k (codes ")") → brackets_at ts i ≤ brackets_at ts (suc k)
fork_kept ts i j k p w o q m e c =
    let x = quiet ts i (i + 1) _ (λ x. refl) (omega arith) w in
    let y = param_kept ts (i + 2) p j q in
    let z = quiet ts j (suc j) _ (λ x. refl) refl m in
    omega (arith, x, parentheses_kept ts (i + 1) (i + 2) k (omega arith) o (omega (arith, y, z, e)) c)

mutual
  stmt_kept : (ts : List Kind) {i j : ℕ} {s : Stmt} → StmtAt ts i s j → brackets_at ts i ≤ brackets_at ts j
  stmt_kept ts (a_let {i = i} {j = j} {k = k} {p = p} w q m e f) =
      let x = quiet ts i (suc i) _ (λ x. refl) refl w in
      let y = param_kept ts (suc i) p j q in
      let z = quiet ts j (suc j) _ (λ x. refl) refl m in
      let u = expr_passes ts e in
      let v = quiet ts k (suc k) _ (λ x. refl) refl f in
      omega (arith, x, y, z, u.brackets, v)
  stmt_kept ts (a_setting {i = i} {j = j} {k = k} {h = h} {f = f} p m e c) =
      let y = field_passes ts i h f j p in
      let z = quiet ts j (suc j) _ (λ x. refl) refl m in
      let u = expr_passes ts e in
      let v = quiet ts k (suc k) _ (λ x. refl) refl c in
      omega (arith, y.brackets, z, u.brackets, v)
  stmt_kept ts (an_if {i = i} {j = j} w o e c a) = omega (arith, condition_kept ts i j _ (codes "if") (λ x. refl) w o e c, block_kept ts a)
  stmt_kept ts (an_if_else {i = i} {j = j} {k = k} w o e c a m b) =
      let x = quiet ts k (suc k) _ (λ x. refl) refl m in
      omega (arith, condition_kept ts i j _ (codes "if") (λ x. refl) w o e c, block_kept ts a, x, block_kept ts b)
  stmt_kept ts (a_filter {i = i} {j = j} w e c) =
      let x = quiet ts i (suc i) _ (λ x. refl) refl w in
      let v = quiet ts j (suc j) _ (λ x. refl) refl c in
      omega (arith, x, (expr_passes ts e).brackets, v)
  stmt_kept ts (a_havoc {i = i} {j = j} {p = p} w q c) =
      let x = quiet ts i (suc i) _ (λ x. refl) refl w in
      let v = quiet ts j (suc j) _ (λ x. refl) refl c in
      omega (arith, x, param_kept ts (suc i) p j q, v)
  stmt_kept ts (a_field_havoc {i = i} {j = j} {h = h} {f = f} w q c) =
      let x = quiet ts i (suc i) _ (λ x. refl) refl w in
      let y = field_passes ts (suc i) h f j q in
      let v = quiet ts j (suc j) _ (λ x. refl) refl c in
      omega (arith, x, y.brackets, v)
  stmt_kept ts (an_assume {i = i} {j = j} w e c) =
      let x = quiet ts i (suc i) _ (λ x. refl) refl w in
      let v = quiet ts j (suc j) _ (λ x. refl) refl c in
      omega (arith, x, (expr_passes ts e).brackets, v)
  stmt_kept ts (a_fork {i = i} {j = j} {k = k} {p = p} w o q m e c b) = omega (arith, fork_kept ts i j k p w o q m (expr_passes ts e).brackets c, block_kept ts b)
  stmt_kept ts (a_send {i = i} {j = j} {r = r} {es = es} w n o p c m) = send_kept ts i j r es w n o p c m

  stmts_kept : (ts : List Kind) {i j : ℕ} {b : Block} → StmtsAt ts i b j → brackets_at ts i ≤ brackets_at ts j
  stmts_kept ts no_stmt = omega arith
  stmts_kept ts (one_stmt p q) = omega (arith, stmt_kept ts p, stmts_kept ts q)

  block_kept : (ts : List Kind) {i j : ℕ} {b : Block} → BlockAt ts i b j → brackets_at ts i ≤ brackets_at ts j
  block_kept ts (a_block {i = i} {j = j} o p c) = braces_kept ts i j o (stmts_kept ts p) c

-- a block opens a bracket, so one less may stand within it
opens : (ts : List Kind) (i : ℕ) → Mark ts i (codes "{") → brackets_at ts (suc i) ≡ suc (brackets_at ts i)
opens ts i o = brackets_next ts i (suc i) _ refl o

one_opens : (ts : List Kind) {i j : ℕ} {b : Block} → BlockAt ts i b j → Mark ts i (codes "{")
one_opens ts (a_block o p c) = o

mutual
  stmt_shallow : (ts : List Kind) → Shallow ts → {i j : ℕ} {s : Stmt} → StmtAt ts i s j → (n : ℕ) → 64 ≤ brackets_at ts i + n → ShallowStmt n s
  stmt_shallow ts d (a_let w q m e f) n l = few ts d e
  stmt_shallow ts d (a_setting p m e c) n l = few ts d e
  stmt_shallow ts d (an_if {i = i} {j = j} w o e c a) zero l =
      absurd (omega (arith, l, condition_kept ts i j _ (codes "if") (λ x. refl) w o e c, opens ts (suc j) (one_opens ts a), d.brackets (suc (suc j))))
  stmt_shallow ts d (an_if {i = i} {j = j} w o e c a) (suc n) l =
      (few ts d e, block_shallow ts d a n (omega (arith, l, condition_kept ts i j _ (codes "if") (λ x. refl) w o e c)), tt)
  stmt_shallow ts d (an_if_else {i = i} {j = j} w o e c a m b) zero l =
      absurd (omega (arith, l, condition_kept ts i j _ (codes "if") (λ x. refl) w o e c, opens ts (suc j) (one_opens ts a), d.brackets (suc (suc j))))
  stmt_shallow ts d (an_if_else {i = i} {j = j} {k = k} w o e c a m b) (suc n) l =
      let x = condition_kept ts i j _ (codes "if") (λ x. refl) w o e c in
      let y = quiet ts k (suc k) _ (λ x. refl) refl m in
      (few ts d e, block_shallow ts d a n (omega (arith, l, x)), block_shallow ts d b n (omega (arith, l, x, y, block_kept ts a)))
  stmt_shallow ts d (a_filter w e c) n l = few ts d e
  stmt_shallow ts d (a_havoc w q c) n l = tt
  stmt_shallow ts d (a_field_havoc w q c) n l = tt
  stmt_shallow ts d (an_assume w e c) n l = few ts d e
  stmt_shallow ts d (a_fork {i = i} {j = j} {k = k} {p = p} w o q m e c b) zero l =
      absurd (omega (arith, l, fork_kept ts i j k p w o q m (expr_passes ts e).brackets c, opens ts (suc k) (one_opens ts b), d.brackets (suc (suc k))))
  stmt_shallow ts d (a_fork {i = i} {j = j} {k = k} {p = p} w o q m e c b) (suc n) l =
      (few ts d e, block_shallow ts d b n (omega (arith, l, fork_kept ts i j k p w o q m (expr_passes ts e).brackets c)))
  stmt_shallow ts d (a_send w n o p c m) k l = few_all ts d p

  stmts_shallow : (ts : List Kind) → Shallow ts → {i j : ℕ} {b : Block} → StmtsAt ts i b j → (n : ℕ) → 64 ≤ brackets_at ts i + n → ShallowBlock n b
  stmts_shallow ts d no_stmt n l = tt
  stmts_shallow ts d (one_stmt p q) n l = (stmt_shallow ts d p n l, stmts_shallow ts d q n (omega (arith, l, stmt_kept ts p)))

  block_shallow : (ts : List Kind) → Shallow ts → {i j : ℕ} {b : Block} → BlockAt ts i b j → (n : ℕ) → 64 ≤ suc (brackets_at ts i) + n → ShallowBlock n b
  block_shallow ts d (a_block {i = i} o p c) n l = stmts_shallow ts d p n (omega (arith, l, opens ts i o))

-- ---- declarations

body_few : (ts : List Kind) → Shallow ts → {i j : ℕ} {e : Option Expr} → BodyAt ts i e j → FewInBody e
body_few ts s (without_body m) = tt
body_few ts s (with_body m p c) = few ts s p

body_shallow : (ts : List Kind) → Shallow ts → {i j : ℕ} {b : Option Block} → RoleBodyAt ts i b j → ShallowBody b
body_shallow ts s (no_block m) = tt
body_shallow ts s (its_block m p) = block_shallow ts s p 64 (omega arith)

decl_shallow : (ts : List Kind) → Shallow ts → {i j : ℕ} {d : Decl} → DeclAt ts i d j → ShallowDecl d
decl_shallow ts s (the_function w n o p c m r b) = body_few ts s b
decl_shallow ts s (the_assumption w a o p c e m) = few ts s e
decl_shallow ts s (the_role w n o p c m e b) = (few ts s e, body_shallow ts s b)
decl_shallow ts s (the_host w a o e c k l m) = tt
decl_shallow ts s (the_switch w a o e c k l p q m) = tt

decls_shallow : (ts : List Kind) → Shallow ts → {i j : ℕ} {ds : List Decl} → Many (DeclAt ts) i ds j → ShallowDecls ds
decls_shallow ts s no_more = tt
decls_shallow ts s (one_more p more) = (decl_shallow ts s p, decls_shallow ts s more)

refine_shallow : (ts : List Kind) → Shallow ts → {i j : ℕ} {d : Refine} → RefineAt ts i d j → ShallowDecls d.decls
refine_shallow ts s (the_block w a r v n o p c) = decls_shallow ts s p

refines_shallow : (ts : List Kind) → Shallow ts → {i j : ℕ} {bs : List Refine} → Many (RefineAt ts) i bs j → ShallowRefines bs
refines_shallow ts s no_more = tt
refines_shallow ts s (one_more p more) = (refine_shallow ts s p, refines_shallow ts s more)

pub readings_are_shallow : (text : List ℕ) (d : Design) → Reads text d → IsShallowTree d
readings_are_shallow text d r =
    let s = shallow (kinds r.tokens) r.shallow in
    (decls_shallow (kinds r.tokens) s r.reads.decls, refines_shallow (kinds r.tokens) s r.reads.refines)
