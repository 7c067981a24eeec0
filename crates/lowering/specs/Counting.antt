-- Cited by the clauses of counting in lower_code and lower_net, and by the law of lowering_fits: how many tables and forks the
-- code of a body has, and how large it is at least. It follows "Lowering and the P4 text" in docs/FORMATS.md: an application of a
-- function that is defined at run time is a table, and so is a fork.
use Rattle.std.specs.Prelude.{ℕ, ◌+◌, ◌*◌, ◌==◌, List, [], ◌∷◌, length, if◌then◌else◌, Some, None}
use Rattle.cocoon_num.specs.Names.{same_name}
use Rattle.cocoon_num.specs.Tree.{Expr, name, field, lit, true_or_false, call, unary, binary, slice, pick, Exprs, no_exprs, expr, FunctionDecl, Stmt, Block, let_, set_field, if_, filter, havoc_var, havoc_field, assume, fork, send, no_stmts, stmt}
use Rattle.lowering.specs.LowerBlock.{fork_args, fork_function}
use Rattle.lowering.specs.Whole.{SwitchRole}

-- ---- tables, and parts of expressions

-- Each table counts as one, and each part of an expression that is printed as so many: as none where tables alone are counted.
-- Where parts are counted, so are the meta fields of calls: where they are declared, and where they are set. A part then is two
-- bytes, and what is counted is no more than the bytes of the program's text.

-- the arguments of a call are printed where there is such a function, of which a call counts as one at least where parts are counted
abbrev pub printed_part : (part called : ℕ) → ℕ
printed_part part called = if called == 0 then 0 else part

-- the line that sets an argument's field
abbrev pub argument_parts : ℕ
argument_parts = 3

-- the lines that declare the fields of so many parameters and of the value, the line that sets the value's, and the read of it
abbrev pub call_parts : (params : ℕ) → ℕ
call_parts params = 9 + 5 * params

abbrev mutual
  -- of an expression, by those of the calls of each function
  pub expr_count : (part : ℕ) → (List ℕ → ℕ) → Expr → ℕ
  expr_count part calls (name at x) = part
  expr_count part calls (field at h f) = part
  expr_count part calls (lit at w n) = part
  expr_count part calls (true_or_false at b) = part
  expr_count part calls (call at f es) = exprs_count (printed_part part (calls f.text)) calls es + calls f.text
  expr_count part calls (unary at op a) = part + expr_count part calls a
  expr_count part calls (binary at op a b) = part + (expr_count part calls a + expr_count part calls b)
  expr_count part calls (slice at a high low) = part + expr_count part calls a
  expr_count part calls (pick at e a b) = part + (expr_count part calls e + (expr_count part calls a + expr_count part calls b))

  pub exprs_count : (part : ℕ) → (List ℕ → ℕ) → Exprs → ℕ
  exprs_count part calls no_exprs = 0
  exprs_count part calls (expr e es) = part * argument_parts + (expr_count part calls e + exprs_count part calls es)

-- of a call of a function with so many parameters, by the parts of its body
abbrev pub closed_count : (part params body : ℕ) → ℕ
closed_count part params body = part * call_parts params + body

-- of a call of the first of these functions of that name; its body sees those after it
abbrev pub call_count : (part : ℕ) → List FunctionDecl → List ℕ → ℕ
call_count part [] f = 0
call_count part (d ∷ earlier) f =
    if same_name f d.name.text then
    elim d.body [
      | None ↦ 1
      | Some e ↦ closed_count part (length d.params) (expr_count part (call_count part earlier) e)
    ]
    else call_count part earlier f

-- of the fork of the function of that name
abbrev pub group_count : List FunctionDecl → List ℕ → ℕ
group_count [] f = 0
group_count (d ∷ earlier) f = if same_name f d.name.text then 1 else group_count earlier f

-- Of a `send` one argument alone is printed, and those of a fork are set to fields only where there is its function: their own
-- parts are not counted.

abbrev mutual
  -- of a block, but for the blocks of its forks
  pub block_count : (part : ℕ) → List FunctionDecl → Block → ℕ
  block_count part fs no_stmts = 0
  block_count part fs (stmt s rest) = stmt_count part fs s + block_count part fs rest

  pub stmt_count : (part : ℕ) → List FunctionDecl → Stmt → ℕ
  stmt_count part fs (let_ at x w e) = expr_count part (call_count part fs) e
  stmt_count part fs (set_field at h f e) = expr_count part (call_count part fs) e
  stmt_count part fs (if_ at e first second) = expr_count part (call_count part fs) e + (block_count part fs first + block_count part fs second)
  stmt_count part fs (filter at e) = expr_count part (call_count part fs) e
  stmt_count part fs (havoc_var at x w) = 0
  stmt_count part fs (havoc_field at h f) = 0
  stmt_count part fs (assume at e) = 0
  stmt_count part fs (fork at x w e body) = exprs_count 0 (call_count part fs) (fork_args e) + group_count fs (fork_function e)
  stmt_count part fs (send at r es) = exprs_count 0 (call_count part fs) es

abbrev mutual
  -- of the blocks of a block's forks
  pub site_count : (part : ℕ) → List FunctionDecl → Block → ℕ
  site_count part fs no_stmts = 0
  site_count part fs (stmt s rest) = stmt_site_count part fs s + site_count part fs rest

  pub stmt_site_count : (part : ℕ) → List FunctionDecl → Stmt → ℕ
  stmt_site_count part fs (if_ at e first second) = site_count part fs first + site_count part fs second
  stmt_site_count part fs (fork at x w e body) = block_count part fs body
  stmt_site_count part fs s = 0

-- of both controls
abbrev pub all_count : (part : ℕ) → List FunctionDecl → Block → ℕ
all_count part fs b = block_count part fs b + site_count part fs b

-- the tables of both controls
abbrev pub all_tables : List FunctionDecl → Block → ℕ
all_tables fs b = all_count 0 fs b

-- the same, and the parts of expressions and of calls, of which each is two bytes at least
abbrev pub all_parts : List FunctionDecl → Block → ℕ
all_parts fs b = all_count 2 fs b

-- how large a program is at least
abbrev pub role_size : SwitchRole → ℕ
role_size r = all_parts r.functions r.body

-- ---- forks

abbrev mutual
  -- those of a block, which do not stand in one another's blocks
  pub forks : Block → ℕ
  forks no_stmts = 0
  forks (stmt s rest) = stmt_forks s + forks rest

  pub stmt_forks : Stmt → ℕ
  stmt_forks (if_ at e first second) = forks first + forks second
  stmt_forks (fork at x w e body) = 1
  stmt_forks s = 0
