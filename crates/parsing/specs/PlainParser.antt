-- The parser as a plain program, which the laws of `text_laws` cite, and clauses of cocoon_text. It goes from
-- the left, with one token ahead. Each phrase has a function X_from, which reads it from a token index on. The number n bounds
-- how deep the calls nest.
use Rattle.std.specs.Prelude.{ℕ, zero, suc, ◌+◌, ◌&&◌, ◌||◌, Bool, true, false, List, [], ◌∷◌, slice_get, if◌then◌else◌, Option, Some, None, codes}
use Rattle.cocoon_num.specs.Values.{Value, number, truth, flip, not_, BinaryOp, add, sub, bits_and, bits_or, bits_xor, concat, equal, unequal, less, less_equal, greater, greater_equal, and_, or_, implies}
use Rattle.cocoon_num.specs.Tree.{Name, Expr, name, field, lit, true_or_false, call, unary, binary, slice, pick, Exprs, no_exprs, expr, Stmt, let_, set_field, if_, filter, havoc_var, havoc_field, assume, fork, send, Block, no_stmts, stmt, Param, ResultKind, of_width, of_truth, Decl, a_function, an_assumption, a_role, a_host, a_switch, Refine, HeaderDecl, Design, Pattern, literal as pattern_literal, masked, any, Entry, a_default, a_row, DefsText, token_index}
use Rattle.cocoon_num.specs.Names.{same_name}
use Rattle.cocoon_num.specs.Tokens.{Kind, a_name, keyword, plain, literal, mark, finish, same_kind}
use Rattle.cocoon_num.specs.Reads.{Level, of_expr, of_or, of_and, of_cmp, of_cat, of_bit, of_sum, of_unary, of_post, of_prim, part, operator}

-- what a reading gives: a tree and the index after its last token, the index of a token that it cannot take, or no
-- answer within the depth
pub data Outcome (A : Type 0) : Type 0 where
  good : (x : A) (j : ℕ) → Outcome A
  bad : (i : ℕ) → Outcome A
  spent : Outcome A

unfoldable pub after : {A B : Type 0} → Outcome A → (A → ℕ → Outcome B) → Outcome B
after (good x j) f = f x j
after (bad i) f = bad i
after spent f = spent

-- ---- tokens

abbrev pub is_mark : List ℕ → Option Kind → Bool
is_mark m None = false
is_mark m (Some k) = same_kind (mark m) k

abbrev pub is_keyword : List ℕ → Option Kind → Bool
is_keyword m None = false
is_keyword m (Some k) = same_kind (keyword m) k

abbrev pub is_finish : Option Kind → Bool
is_finish (Some finish) = true
is_finish _ = false

abbrev pub ops_of : Level → List BinaryOp
ops_of of_expr = implies ∷ []
ops_of of_or = or_ ∷ []
ops_of of_and = and_ ∷ []
ops_of of_cmp = equal ∷ unequal ∷ less ∷ less_equal ∷ greater ∷ greater_equal ∷ []
ops_of of_cat = concat ∷ []
ops_of of_bit = bits_and ∷ bits_or ∷ bits_xor ∷ []
ops_of of_sum = add ∷ sub ∷ []
ops_of of_unary = []
ops_of of_post = []
ops_of of_prim = []

abbrev pub op_in : List BinaryOp → Kind → Option BinaryOp
op_in [] k = None
op_in (op ∷ ops) k = if same_kind (operator op) k then Some op else op_in ops k

-- the operator of the level that a token is
abbrev pub op_at : Level → Option Kind → Option BinaryOp
op_at l None = None
op_at l (Some k) = op_in (ops_of l) k

-- the name that a token at an index is
abbrev pub name_at : ℕ → Option Kind → Option Name
name_at i (Some (a_name x)) = Some (record { at = i; text = x })
name_at i _ = None

abbrev pub plain_of : Option Kind → Option ℕ
plain_of (Some (plain n)) = Some n
plain_of _ = None

-- goes on after this mark
unfoldable pub marked : {A : Type 0} → List Kind → List ℕ → ℕ → Outcome A → Outcome A
marked ts m i r = if is_mark m (slice_get ts i) then r else bad i

-- after this reserved word
unfoldable pub reserved : {A : Type 0} → List Kind → List ℕ → ℕ → Outcome A → Outcome A
reserved ts m i r = if is_keyword m (slice_get ts i) then r else bad i

-- with what a token means, if it does
abbrev pub taken : {A B : Type 0} → Option A → ℕ → (A → Outcome B) → Outcome B
taken None i f = bad i
taken (Some x) i f = f x

-- with the name that stands there
unfoldable pub named : {A : Type 0} → List Kind → ℕ → (Name → Outcome A) → Outcome A
named ts i f = taken (name_at i (slice_get ts i)) i f

-- with the plain number that stands there
unfoldable pub numbered : {A : Type 0} → List Kind → ℕ → (ℕ → Outcome A) → Outcome A
numbered ts i f = taken (plain_of (slice_get ts i)) i f

-- ---- lists

-- phrases up to a token that passes a test
abbrev pub many_from : {A : Type 0} → (ℕ → ℕ → Outcome A) → (ℕ → Bool) → ℕ → ℕ → Outcome (List A)
many_from one stops zero i = spent
many_from one stops (suc n) i = if stops i then good [] i else after (one n i) (λ x j. after (many_from one stops n j) (λ xs k. good (x ∷ xs) k))

-- one phrase at least
abbrev pub some_from : {A : Type 0} → (ℕ → ℕ → Outcome A) → (ℕ → Bool) → ℕ → ℕ → Outcome (List A)
some_from one stops n i = after (one n i) (λ x j. after (many_from one stops n j) (λ xs k. good (x ∷ xs) k))

-- phrases with commas between
abbrev pub commas_from : {A : Type 0} → List Kind → (ℕ → ℕ → Outcome A) → ℕ → ℕ → Outcome (List A)
commas_from ts one zero i = spent
commas_from ts one (suc n) i = after (one n i) (λ x j. if is_mark (codes ",") (slice_get ts j) then after (commas_from ts one n (suc j)) (λ xs k. good (x ∷ xs) k) else good (x ∷ []) j)

-- ---- expressions

pub record Path : Type 0 where
  pub header : Name
  pub field : Name

-- a field of the packet
unfoldable pub path_from : List Kind → ℕ → Outcome Path
path_from ts i = reserved ts (codes "pkt") i (marked ts (codes ".") (i + 1) (named ts (i + 2) (λ h. marked ts (codes ".") (i + 3) (named ts (i + 4) (λ f. good (record { header = h; field = f }) (i + 5))))))

abbrev pub implied : Option BinaryOp → Expr → ℕ → Outcome Expr → Outcome Expr
implied None a j r = good a j
implied (Some op) a j r = after r (λ b k. good (binary (token_index a) op a b) k)

-- ":" b ")"
abbrev pub picked : List Kind → (ℕ → Outcome Expr) → Expr → Expr → ℕ → Outcome Expr
picked ts e c a k = marked ts (codes ":") k (after (e (suc k)) (λ b l. marked ts (codes ")") l (good (pick (token_index c) c a b) (suc l))))

-- ")", or "?" a ":" b ")"
abbrev pub bracketed : List Kind → (ℕ → Outcome Expr) → Expr → ℕ → Outcome Expr
bracketed ts e c j = if is_mark (codes "?") (slice_get ts j) then after (e (suc j)) (picked ts e c) else marked ts (codes ")") j (good c (suc j))

abbrev pub prim_of : List Kind → (ℕ → Outcome Expr) → (ℕ → Outcome Exprs) → ℕ → Option Kind → Outcome Expr
prim_of ts e es i None = bad i
prim_of ts e es i (Some (a_name x)) =
    if is_mark (codes "(") (slice_get ts (i + 1)) then after (es (i + 2)) (λ xs j. marked ts (codes ")") j (good (call i (record { at = i; text = x }) xs) (suc j)))
    else good (name i x) (suc i)
prim_of ts e es i (Some (keyword t)) =
    if same_name t (codes "true") then good (true_or_false i true) (suc i)
    else if same_name t (codes "false") then good (true_or_false i false) (suc i)
    else after (path_from ts i) (λ p j. good (field i p.header p.field) j)
prim_of ts e es i (Some (plain n)) = bad i
prim_of ts e es i (Some (literal w n)) = good (lit i w n) (suc i)
prim_of ts e es i (Some (mark m)) = if same_name m (codes "(") then after (e (suc i)) (bracketed ts e) else bad i
prim_of ts e es i (Some finish) = bad i

abbrev pub unary_of : (ℕ → Outcome Expr) → (ℕ → Outcome Expr) → ℕ → Option Kind → Outcome Expr
unary_of u p i k =
    if is_mark (codes "~") k then after (u (suc i)) (λ a j. good (unary i flip a) j)
    else if is_keyword (codes "not") k then after (u (suc i)) (λ a j. good (unary i not_ a) j)
    else p i

-- goes on after an operator, if there is one
abbrev pub by_op : Option BinaryOp → Outcome Expr → (BinaryOp → Outcome Expr) → Outcome Expr
by_op None stop more = stop
by_op (Some op) stop more = more op

-- what follows "[" of a slice
abbrev pub sliced : List Kind → ℕ → (ℕ → ℕ → Outcome Expr) → Outcome Expr
sliced ts j f = numbered ts (j + 1) (λ high. marked ts (codes ":") (j + 2) (numbered ts (j + 3) (λ low. marked ts (codes "]") (j + 4) (f high low))))

abbrev pub is_post : Level → Bool
is_post of_post = true
is_post _ = false

abbrev pub part_from : (Level → ℕ → Outcome Expr) → Option Level → ℕ → Outcome Expr
part_from f None i = bad i
part_from f (Some m) i = f m i

abbrev mutual
  pub expr_from : List Kind → ℕ → Level → ℕ → Outcome Expr
  expr_from ts zero l i = spent
  expr_from ts (suc n) of_expr i = after (expr_from ts n of_or i) (λ a j. implied (op_at of_expr (slice_get ts j)) a j (expr_from ts n of_expr (suc j)))
  expr_from ts (suc n) of_or i = after (expr_from ts n of_and i) (rest_from ts n of_or)
  expr_from ts (suc n) of_and i = after (expr_from ts n of_cmp i) (rest_from ts n of_and)
  expr_from ts (suc n) of_cmp i = after (expr_from ts n of_cat i) (λ a j. implied (op_at of_cmp (slice_get ts j)) a j (expr_from ts n of_cat (suc j)))
  expr_from ts (suc n) of_cat i = after (expr_from ts n of_bit i) (rest_from ts n of_cat)
  expr_from ts (suc n) of_bit i = after (expr_from ts n of_sum i) (rest_from ts n of_bit)
  expr_from ts (suc n) of_sum i = after (expr_from ts n of_unary i) (rest_from ts n of_sum)
  expr_from ts (suc n) of_unary i = unary_of (expr_from ts n of_unary) (expr_from ts n of_post) i (slice_get ts i)
  expr_from ts (suc n) of_post i = after (expr_from ts n of_prim i) (rest_from ts n of_post)
  expr_from ts (suc n) of_prim i = prim_of ts (expr_from ts n of_expr) (exprs_from ts n) i (slice_get ts i)

  -- what follows the parts of a chain so far
  pub rest_from : List Kind → ℕ → Level → Expr → ℕ → Outcome Expr
  rest_from ts zero l a j = spent
  rest_from ts (suc n) l a j =
      if is_post l && is_mark (codes "[") (slice_get ts j) then sliced ts j (λ high low. rest_from ts n l (slice (token_index a) a high low) (j + 5))
      else by_op (op_at l (slice_get ts j)) (good a j) (λ op. after (part_from (expr_from ts n) (part l) (suc j)) (λ b k. rest_from ts n l (binary (token_index a) op a b) k))

  pub exprs_from : List Kind → ℕ → ℕ → Outcome Exprs
  exprs_from ts zero i = spent
  exprs_from ts (suc n) i = after (expr_from ts n of_expr i) (λ a j.
      if is_mark (codes ",") (slice_get ts j) then after (exprs_from ts n (suc j)) (λ es k. good (expr a es) k) else good (expr a no_exprs) j)

-- ---- types, parameters

-- bit<N>
unfoldable pub bits_from : List Kind → ℕ → Outcome ℕ
bits_from ts i = reserved ts (codes "bit") i (marked ts (codes "<") (i + 1) (numbered ts (i + 2) (λ width. marked ts (codes ">") (i + 3) (good width (i + 4)))))

-- x: bit<N>
unfoldable pub param_from : List Kind → ℕ → Outcome Param
param_from ts i = named ts i (λ x. marked ts (codes ":") (i + 1) (after (bits_from ts (i + 2)) (λ width j. good (record { name = x; width = width }) j)))

abbrev pub params_from : List Kind → ℕ → ℕ → Outcome (List Param)
params_from ts = commas_from ts (λ n. param_from ts)

-- ---- statements

-- an expression and a ";"
abbrev pub ended : {A : Type 0} → List Kind → (ℕ → Outcome Expr) → ℕ → (Expr → A) → Outcome A
ended ts e i f = after (e i) (λ x k. marked ts (codes ";") k (good (f x) (suc k)))

unfoldable pub let_from : List Kind → (ℕ → Outcome Expr) → ℕ → Outcome Stmt
let_from ts e i = after (param_from ts (suc i)) (λ p j. marked ts (codes "=") j (ended ts e (suc j) (λ x. let_ i p.name p.width x)))

unfoldable pub setting_from : List Kind → (ℕ → Outcome Expr) → ℕ → Outcome Stmt
setting_from ts e i = after (path_from ts i) (λ p j. marked ts (codes "=") j (ended ts e (suc j) (λ x. set_field i p.header p.field x)))

-- "(" e ")" and a block
abbrev pub tested : List Kind → (ℕ → Outcome Expr) → (ℕ → Outcome Block) → ℕ → (Expr → Block → ℕ → Outcome Stmt) → Outcome Stmt
tested ts e b i f = marked ts (codes "(") (i + 1) (after (e (i + 2)) (λ x j. marked ts (codes ")") j (after (b (suc j)) (λ a k. f x a k))))

unfoldable pub if_from : List Kind → (ℕ → Outcome Expr) → (ℕ → Outcome Block) → ℕ → Outcome Stmt
if_from ts e b i = tested ts e b i (λ x a k. if is_keyword (codes "else") (slice_get ts k) then after (b (suc k)) (λ c l. good (if_ i x a c) l) else good (if_ i x a no_stmts) k)

-- a field of the packet, or a parameter
unfoldable pub havoc_from : List Kind → ℕ → Outcome Stmt
havoc_from ts i =
    if is_keyword (codes "pkt") (slice_get ts (suc i)) then after (path_from ts (suc i)) (λ p j. marked ts (codes ";") j (good (havoc_field i p.header p.field) (suc j)))
    else after (param_from ts (suc i)) (λ p j. marked ts (codes ";") j (good (havoc_var i p.name p.width) (suc j)))

unfoldable pub fork_from : List Kind → (ℕ → Outcome Expr) → (ℕ → Outcome Block) → ℕ → Outcome Stmt
fork_from ts e b i = marked ts (codes "(") (i + 1) (after (param_from ts (i + 2)) (λ p j. marked ts (codes "|") j (after (e (suc j)) (λ x k. marked ts (codes ")") k (after (b (suc k)) (λ a l. good (fork i p.name p.width x a) l))))))

unfoldable pub send_from : List Kind → (ℕ → Outcome Exprs) → ℕ → Outcome Stmt
send_from ts es i = named ts (i + 1) (λ r. marked ts (codes "[") (i + 2) (after (es (i + 3)) (λ xs j. marked ts (codes "]") j (marked ts (codes ";") (j + 1) (good (send i r xs) (j + 2))))))

abbrev pub stmt_of : List Kind → (ℕ → Outcome Expr) → (ℕ → Outcome Exprs) → (ℕ → Outcome Block) → ℕ → Option Kind → Outcome Stmt
stmt_of ts e es b i k =
    if is_keyword (codes "let") k then let_from ts e i
    else if is_keyword (codes "pkt") k then setting_from ts e i
    else if is_keyword (codes "if") k then if_from ts e b i
    else if is_keyword (codes "filter") k then ended ts e (suc i) (λ x. filter i x)
    else if is_keyword (codes "havoc") k then havoc_from ts i
    else if is_keyword (codes "assume") k then ended ts e (suc i) (λ x. assume i x)
    else if is_keyword (codes "fork") k then fork_from ts e b i
    else if is_keyword (codes "send") k then send_from ts es i
    else bad i

abbrev mutual
  pub stmt_from : List Kind → ℕ → ℕ → Outcome Stmt
  stmt_from ts zero i = spent
  stmt_from ts (suc n) i = stmt_of ts (expr_from ts n of_expr) (exprs_from ts n) (block_from ts n) i (slice_get ts i)

  pub stmts_from : List Kind → ℕ → ℕ → Outcome Block
  stmts_from ts zero i = spent
  stmts_from ts (suc n) i = if is_mark (codes "}") (slice_get ts i) then good no_stmts i else after (stmt_from ts n i) (λ s j. after (stmts_from ts n j) (λ b k. good (stmt s b) k))

  pub block_from : List Kind → ℕ → ℕ → Outcome Block
  block_from ts zero i = spent
  block_from ts (suc n) i = marked ts (codes "{") i (after (stmts_from ts n (suc i)) (λ b j. marked ts (codes "}") j (good b (suc j))))

-- ---- declarations

unfoldable pub result_from : List Kind → ℕ → Outcome ResultKind
result_from ts i = if is_keyword (codes "bool") (slice_get ts i) then good of_truth (suc i) else after (bits_from ts i) (λ width j. good (of_width width) j)

-- [ "=" expr ] ";"
unfoldable pub body_from : List Kind → ℕ → ℕ → Outcome (Option Expr)
body_from ts n i = if is_mark (codes ";") (slice_get ts i) then good None (suc i) else marked ts (codes "=") i (ended ts (expr_from ts n of_expr) (suc i) (λ e. Some e))

-- ";" or "=" block
unfoldable pub role_body_from : List Kind → ℕ → ℕ → Outcome (Option Block)
role_body_from ts n i = if is_mark (codes ";") (slice_get ts i) then good None (suc i) else marked ts (codes "=") i (after (block_from ts n (suc i)) (λ b j. good (Some b) j))

-- parameters or none, up to ")"
unfoldable pub optional_params_from : List Kind → ℕ → ℕ → Outcome (List Param)
optional_params_from ts n i = if is_mark (codes ")") (slice_get ts i) then good [] i else params_from ts n i

unfoldable pub function_from : List Kind → ℕ → ℕ → Outcome Decl
function_from ts n i = named ts (i + 1) (λ f. marked ts (codes "(") (i + 2) (after (params_from ts n (i + 3)) (λ ps j. marked ts (codes ")") j (marked ts (codes ":") (j + 1)
    (after (result_from ts (j + 2)) (λ r k. after (body_from ts n k) (λ b l. good (a_function (record { name = f; params = ps; result = r; body = b })) l)))))))

unfoldable pub assumption_from : List Kind → ℕ → ℕ → Outcome Decl
assumption_from ts n i = marked ts (codes "(") (i + 1) (after (optional_params_from ts n (i + 2)) (λ ps j. marked ts (codes ")") j
    (ended ts (expr_from ts n of_expr) (suc j) (λ e. an_assumption (record { at = i; params = ps; body = e })))))

unfoldable pub role_from : List Kind → ℕ → ℕ → Outcome Decl
role_from ts n i = named ts (i + 1) (λ r. marked ts (codes "[") (i + 2) (after (params_from ts n (i + 3)) (λ ps j. marked ts (codes "]") j (marked ts (codes "|") (j + 1)
    (after (expr_from ts n of_expr (j + 2)) (λ e k. after (role_body_from ts n k) (λ b l. good (a_role (record { name = r; params = ps; guard = e; body = b })) l)))))))

unfoldable pub host_from : List Kind → ℕ → Outcome Decl
host_from ts i = marked ts (codes "(") (i + 1) (named ts (i + 2) (λ x. marked ts (codes ",") (i + 3) (named ts (i + 4) (λ y. marked ts (codes ")") (i + 5) (marked ts (codes ";") (i + 6)
    (good (a_host (record { at = i; entry = x; sink = y })) (i + 7)))))))

unfoldable pub switch_from : List Kind → ℕ → Outcome Decl
switch_from ts i = marked ts (codes "(") (i + 1) (named ts (i + 2) (λ x. marked ts (codes ",") (i + 3) (named ts (i + 4) (λ y. marked ts (codes ")") (i + 5) (reserved ts (codes "ports") (i + 6)
    (numbered ts (i + 7) (λ p. marked ts (codes ";") (i + 8) (good (a_switch (record { at = i; into = x; out = y; ports = p })) (i + 9)))))))))

unfoldable pub decl_from : List Kind → ℕ → ℕ → Outcome Decl
decl_from ts n i =
    if is_keyword (codes "function") (slice_get ts i) then function_from ts n i
    else if is_keyword (codes "assume") (slice_get ts i) then assumption_from ts n i
    else if is_keyword (codes "role") (slice_get ts i) then role_from ts n i
    else if is_keyword (codes "host") (slice_get ts i) then host_from ts i
    else if is_keyword (codes "switch") (slice_get ts i) then switch_from ts i
    else bad i

-- ---- a whole design

abbrev pub closes : List Kind → ℕ → Bool
closes ts i = is_mark (codes "}") (slice_get ts i)

abbrev pub finishes : List Kind → ℕ → Bool
finishes ts i = is_finish (slice_get ts i)

abbrev pub ends_decls : List Kind → ℕ → Bool
ends_decls ts i = is_keyword (codes "refine") (slice_get ts i) || is_finish (slice_get ts i)

unfoldable pub name_from : List Kind → ℕ → Outcome Name
name_from ts i = named ts i (λ x. good x (suc i))

unfoldable pub refine_from : List Kind → ℕ → ℕ → Outcome Refine
refine_from ts n i = reserved ts (codes "refine") i (after (commas_from ts (λ m. name_from ts) n (suc i)) (λ rs j. reserved ts (codes "within") j (numbered ts (j + 1) (λ w. marked ts (codes "{") (j + 2)
    (after (many_from (decl_from ts) (closes ts) n (j + 3)) (λ ds k. marked ts (codes "}") k (good (record { at = i; roles = rs; within = w; decls = ds }) (suc k))))))))

-- x: bit<N>;
unfoldable pub header_field_from : List Kind → ℕ → Outcome Param
header_field_from ts i = after (param_from ts i) (λ p j. marked ts (codes ";") j (good p (suc j)))

unfoldable pub header_from : List Kind → ℕ → ℕ → Outcome HeaderDecl
header_from ts n i = reserved ts (codes "header") i (named ts (i + 1) (λ h. marked ts (codes "{") (i + 2) (after (some_from (λ m. header_field_from ts) (closes ts) n (i + 3)) (λ fs j.
    marked ts (codes "}") j (good (record { name = h; fields = fs }) (suc j))))))

unfoldable pub design_from : List Kind → ℕ → Outcome Design
design_from ts n = reserved ts (codes "packet") 0 (marked ts (codes "{") 1 (after (some_from (header_from ts) (closes ts) n 2) (λ hs i. marked ts (codes "}") i
    (after (many_from (decl_from ts) (ends_decls ts) n (suc i)) (λ ds j. after (many_from (refine_from ts) (finishes ts) n j) (λ rs k.
    if is_finish (slice_get ts k) then good (record { headers = hs; decls = ds; refines = rs }) k else bad k))))))

-- ---- definitions

abbrev pub const_of : ℕ → Option Kind → Outcome Value
const_of i (Some (literal width n)) = good (number width n) (suc i)
const_of i (Some (keyword t)) = if same_name t (codes "true") then good (truth true) (suc i) else if same_name t (codes "false") then good (truth false) (suc i) else bad i
const_of i _ = bad i

unfoldable pub const_from : List Kind → ℕ → Outcome Value
const_from ts i = const_of i (slice_get ts i)

-- the literal that a token is
pub record Literal : Type 0 where
  pub width : ℕ
  pub n : ℕ

abbrev pub literal_of : Option Kind → Option Literal
literal_of (Some (literal width n)) = Some (record { width = width; n = n })
literal_of _ = None

unfoldable pub pattern_from : List Kind → ℕ → Outcome Pattern
pattern_from ts i =
    if is_mark (codes "_") (slice_get ts i) then good any (suc i)
    else taken (literal_of (slice_get ts i)) i (λ x.
    if is_mark (codes "&&&") (slice_get ts (i + 1)) then taken (literal_of (slice_get ts (i + 2))) (i + 2) (λ m. good (masked x.width x.n m.width m.n) (i + 3))
    else good (pattern_literal x.width x.n) (suc i))

unfoldable pub default_from : List Kind → ℕ → Outcome Entry
default_from ts i = named ts (i + 1) (λ f. marked ts (codes "=") (i + 2) (after (const_from ts (i + 3)) (λ v j. marked ts (codes ";") j (good (a_default f v) (suc j)))))

unfoldable pub row_from : List Kind → ℕ → ℕ → Outcome Entry
row_from ts n i = named ts (i + 1) (λ f. marked ts (codes "(") (i + 2) (after (commas_from ts (λ m. pattern_from ts) n (i + 3)) (λ ps j. marked ts (codes ")") j (marked ts (codes "=") (j + 1)
    (after (const_from ts (j + 2)) (λ v k. marked ts (codes ";") k (good (a_row f ps v) (suc k))))))))

unfoldable pub entry_from : List Kind → ℕ → ℕ → Outcome Entry
entry_from ts n i = if is_keyword (codes "default") (slice_get ts i) then default_from ts i else if is_keyword (codes "define") (slice_get ts i) then row_from ts n i else bad i

unfoldable pub defs_from : List Kind → ℕ → Outcome DefsText
defs_from ts n = many_from (entry_from ts) (finishes ts) n 0
