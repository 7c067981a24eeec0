-- What the plain programs call the same is the same tree, and no other.
use Rattle.std.proofs.Common.{◌≡◌, ◌↔◌, ℕ, ◌==◌, ◌&&◌, Bool, true, false, if◌then◌else◌, IsTrue, refl, sym, ap, ap₂, ◌∙◌, subst}
use Rattle.std.proofs.lemmas.Bool.{and_from, and_parts, eqb-true, eq-eqb}
use Rattle.cocoon_num.specs.Values.{UnaryOp, flip, not_, BinaryOp, add, sub, bits_and, bits_or, bits_xor, concat, equal, unequal, less, less_equal, greater, greater_equal, and_, or_, implies}
use Rattle.p4_ir.specs.P4Tree.{P4Expr, p_lit, p_truth, p_meta, p_field, p_port, p_rid, p_unary, p_binary, p_slice, p_pick, P4Stmt, set_meta, set_header, apply_table, p_if, p_if_else, verdict, egress_port, group, p_return, P4Block, p_done, p_then}
use Rattle.net_wiring.specs.SameTrees.{code_of, same_binary, same_block, same_expr, same_stmt, same_truth, same_unary}

-- ---- numbers and operators

number_same : (n : ℕ) → IsTrue (n == n)
number_same n = eq-eqb n n refl

truth_is : (b c : Bool) → IsTrue (same_truth b c) → b ≡ c
truth_is true true h = refl
truth_is false false h = refl
truth_is _ _ h = absurd cc

truth_same : (b : Bool) → IsTrue (same_truth b b)
truth_same true = refl
truth_same false = refl

unary_is : (a b : UnaryOp) → IsTrue (same_unary a b) → a ≡ b
unary_is flip flip h = refl
unary_is not_ not_ h = refl
unary_is _ _ h = absurd cc

unary_same : (a : UnaryOp) → IsTrue (same_unary a a)
unary_same flip = refl
unary_same not_ = refl

-- the operator of a number
abbrev op_of : ℕ → BinaryOp
op_of n =
    if n == 0 then add else
    if n == 1 then sub else
    if n == 2 then bits_and else
    if n == 3 then bits_or else
    if n == 4 then bits_xor else
    if n == 5 then concat else
    if n == 6 then equal else
    if n == 7 then unequal else
    if n == 8 then less else
    if n == 9 then less_equal else
    if n == 10 then greater else
    if n == 11 then greater_equal else
    if n == 12 then and_ else
    if n == 13 then or_ else implies

op_back : (op : BinaryOp) → op_of (code_of op) ≡ op
op_back add = refl
op_back sub = refl
op_back bits_and = refl
op_back bits_or = refl
op_back bits_xor = refl
op_back concat = refl
op_back equal = refl
op_back unequal = refl
op_back less = refl
op_back less_equal = refl
op_back greater = refl
op_back greater_equal = refl
op_back and_ = refl
op_back or_ = refl
op_back implies = refl

binary_is : (a b : BinaryOp) → IsTrue (same_binary a b) → a ≡ b
binary_is a b h = sym (op_back a) ∙ ap op_of (eqb-true (code_of a) (code_of b) h) ∙ op_back b

-- ---- expressions

expr_is : (a b : P4Expr) → IsTrue (same_expr a b) → a ≡ b
expr_is (p_lit w n) (p_lit v m) h =
    let parts = and_parts (w == v) (n == m) h in
    ap₂ p_lit (eqb-true w v parts.0) (eqb-true n m parts.1)
expr_is (p_truth b) (p_truth c) h = ap p_truth (truth_is b c h)
expr_is (p_meta i) (p_meta j) h = ap p_meta (eqb-true i j h)
expr_is (p_field i f) (p_field j g) h =
    let parts = and_parts (i == j) (f == g) h in
    ap₂ p_field (eqb-true i j parts.0) (eqb-true f g parts.1)
expr_is p_port p_port h = refl
expr_is p_rid p_rid h = refl
expr_is (p_unary op a) (p_unary o b) h =
    let parts = and_parts (same_unary op o) (same_expr a b) h in
    ap₂ p_unary (unary_is op o parts.0) (expr_is a b parts.1)
expr_is (p_binary op a b) (p_binary o c d) h =
    let parts = and_parts (same_binary op o && same_expr a c) (same_expr b d) h in
    let both = and_parts (same_binary op o) (same_expr a c) parts.0 in
    ap (λ x. p_binary x a b) (binary_is op o both.0) ∙ ap₂ (p_binary o) (expr_is a c both.1) (expr_is b d parts.1)
expr_is (p_slice a high low) (p_slice b top bottom) h =
    let parts = and_parts (same_expr a b && (high == top)) (low == bottom) h in
    let both = and_parts (same_expr a b) (high == top) parts.0 in
    ap (λ x. p_slice x high low) (expr_is a b both.0) ∙ ap₂ (p_slice b) (eqb-true high top both.1) (eqb-true low bottom parts.1)
expr_is (p_pick c a b) (p_pick d x y) h =
    let parts = and_parts (same_expr c d && same_expr a x) (same_expr b y) h in
    let both = and_parts (same_expr c d) (same_expr a x) parts.0 in
    ap (λ e. p_pick e a b) (expr_is c d both.0) ∙ ap₂ (p_pick d) (expr_is a x both.1) (expr_is b y parts.1)
expr_is _ _ h = absurd cc

expr_same : (a : P4Expr) → IsTrue (same_expr a a)
expr_same (p_lit w n) = and_from _ _ (number_same w) (number_same n)
expr_same (p_truth b) = truth_same b
expr_same (p_meta i) = number_same i
expr_same (p_field i f) = and_from _ _ (number_same i) (number_same f)
expr_same p_port = refl
expr_same p_rid = refl
expr_same (p_unary op a) = and_from _ _ (unary_same op) (expr_same a)
expr_same (p_binary op a b) = and_from _ _ (and_from _ _ (number_same (code_of op)) (expr_same a)) (expr_same b)
expr_same (p_slice a high low) = and_from _ _ (and_from _ _ (expr_same a) (number_same high)) (number_same low)
expr_same (p_pick c a b) = and_from _ _ (and_from _ _ (expr_same c) (expr_same a)) (expr_same b)

-- ---- statements

mutual
  stmt_is : (s t : P4Stmt) → IsTrue (same_stmt s t) → s ≡ t
  stmt_is (set_meta i a) (set_meta j b) h =
      let parts = and_parts (i == j) (same_expr a b) h in
      ap₂ set_meta (eqb-true i j parts.0) (expr_is a b parts.1)
  stmt_is (set_header i f a) (set_header j g b) h =
      let parts = and_parts ((i == j) && (f == g)) (same_expr a b) h in
      let both = and_parts (i == j) (f == g) parts.0 in
      ap (λ k. set_header k f a) (eqb-true i j both.0) ∙ ap₂ (set_header j) (eqb-true f g both.1) (expr_is a b parts.1)
  stmt_is (apply_table n) (apply_table m) h = ap apply_table (eqb-true n m h)
  stmt_is (p_if c x) (p_if d y) h =
      let parts = and_parts (same_expr c d) (same_block x y) h in
      ap₂ p_if (expr_is c d parts.0) (block_is x y parts.1)
  stmt_is (p_if_else c x y) (p_if_else d u v) h =
      let parts = and_parts (same_expr c d && same_block x u) (same_block y v) h in
      let both = and_parts (same_expr c d) (same_block x u) parts.0 in
      ap (λ e. p_if_else e x y) (expr_is c d both.0) ∙ ap₂ (p_if_else d) (block_is x u both.1) (block_is y v parts.1)
  stmt_is (verdict n) (verdict m) h = ap verdict (eqb-true n m h)
  stmt_is (egress_port a) (egress_port b) h = ap egress_port (expr_is a b h)
  stmt_is (group a) (group b) h = ap group (expr_is a b h)
  stmt_is p_return p_return h = refl
  stmt_is _ _ h = absurd cc

  block_is : (x y : P4Block) → IsTrue (same_block x y) → x ≡ y
  block_is p_done p_done h = refl
  block_is (p_then s x) (p_then t y) h =
      let parts = and_parts (same_stmt s t) (same_block x y) h in
      ap₂ p_then (stmt_is s t parts.0) (block_is x y parts.1)
  block_is _ _ h = absurd cc

mutual
  stmt_same : (s : P4Stmt) → IsTrue (same_stmt s s)
  stmt_same (set_meta i a) = and_from _ _ (number_same i) (expr_same a)
  stmt_same (set_header i f a) = and_from _ _ (and_from _ _ (number_same i) (number_same f)) (expr_same a)
  stmt_same (apply_table n) = number_same n
  stmt_same (p_if c x) = and_from _ _ (expr_same c) (block_same x)
  stmt_same (p_if_else c x y) = and_from _ _ (and_from _ _ (expr_same c) (block_same x)) (block_same y)
  stmt_same (verdict n) = number_same n
  stmt_same (egress_port a) = expr_same a
  stmt_same (group a) = expr_same a
  stmt_same p_return = refl

  block_same : (x : P4Block) → IsTrue (same_block x x)
  block_same p_done = refl
  block_same (p_then s x) = and_from _ _ (stmt_same s) (block_same x)

pub block_exact : (x y : P4Block) → IsTrue (same_block x y) ↔ (x ≡ y)
block_exact x y = (block_is x y, λ e. subst (λ z. IsTrue (same_block x z)) e (block_same x))
