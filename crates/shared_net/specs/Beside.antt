-- What stands beside the parts of a statement or an expression, where two programs are gone over at once: the program of a switch
-- has of each part what is made of the two. The clauses of `beside` cite it.
use Rattle.std.specs.Prelude.{◌≡◌, ℕ}
use Rattle.cocoon_num.specs.Values.{BinaryOp, UnaryOp}
use Rattle.p4_ir.specs.P4Tree.{P4Expr, p_unary, p_binary, p_slice, p_pick, P4Stmt, set_meta, set_header, p_if, p_if_else, egress_port, group, P4Block, p_then}
use Rattle.shared_net.specs.Merging.{block_merged, expr_merged, stmt_merged}

-- ---- expressions

-- beside `a`, where `other` is beside an operation on `a`
abbrev pub AsUnary : (a other x : P4Expr) → Type 0
AsUnary a other x = (s : ℕ) → (op : UnaryOp) → expr_merged s (p_unary op a) other ≡ p_unary op (expr_merged s a x)

abbrev pub AsBinary : (a b other x y : P4Expr) → Type 0
AsBinary a b other x y = (s : ℕ) → (op : BinaryOp) → expr_merged s (p_binary op a b) other ≡ p_binary op (expr_merged s a x) (expr_merged s b y)

abbrev pub AsSlice : (a other x : P4Expr) → Type 0
AsSlice a other x = (s high low : ℕ) → expr_merged s (p_slice a high low) other ≡ p_slice (expr_merged s a x) high low

abbrev pub AsChoice : (c a b other z x y : P4Expr) → Type 0
AsChoice c a b other z x y = (s : ℕ) → expr_merged s (p_pick c a b) other ≡ p_pick (expr_merged s c z) (expr_merged s a x) (expr_merged s b y)

-- ---- statements

abbrev pub AsMeta : (e : P4Expr) → (other : P4Stmt) → (x : P4Expr) → Type 0
AsMeta e other x = (s i : ℕ) → stmt_merged s (set_meta i e) other ≡ set_meta i (expr_merged s e x)

abbrev pub AsHeader : (e : P4Expr) → (other : P4Stmt) → (x : P4Expr) → Type 0
AsHeader e other x = (s h f : ℕ) → stmt_merged s (set_header h f e) other ≡ set_header h f (expr_merged s e x)

abbrev pub AsPort : (e : P4Expr) → (other : P4Stmt) → (x : P4Expr) → Type 0
AsPort e other x = (s : ℕ) → stmt_merged s (egress_port e) other ≡ egress_port (expr_merged s e x)

abbrev pub AsGroup : (e : P4Expr) → (other : P4Stmt) → (x : P4Expr) → Type 0
AsGroup e other x = (s : ℕ) → stmt_merged s (group e) other ≡ group (expr_merged s e x)

abbrev pub AsIf : (e : P4Expr) → (a : P4Block) → (other : P4Stmt) → (z : P4Expr) → (x : P4Block) → Type 0
AsIf e a other z x = (s : ℕ) → stmt_merged s (p_if e a) other ≡ p_if (expr_merged s e z) (block_merged s a x)

abbrev pub AsIfElse : (e : P4Expr) → (a b : P4Block) → (other : P4Stmt) → (z : P4Expr) → (x y : P4Block) → Type 0
AsIfElse e a b other z x y = (s : ℕ) → stmt_merged s (p_if_else e a b) other ≡ p_if_else (expr_merged s e z) (block_merged s a x) (block_merged s b y)

-- beside the first statement of a block, and beside the others
abbrev pub AsFirst : (a : P4Stmt) → (others : P4Block) → (x : P4Stmt) → (rest : P4Block) → Type 0
AsFirst a others x rest = (s : ℕ) → (more : P4Block) → block_merged s (p_then a more) others ≡ p_then (stmt_merged s a x) (block_merged s more rest)
