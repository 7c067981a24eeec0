-- Cited by all laws here and by the clauses of `lower_code`. Lowering of expressions and of function calls, as
-- functions on trees. The state is four counts: of table applications, of fields that hold a variable of the body (their
-- names begin with `v`), of meta fields, and of forks, each of which is a site in egress. Beside the code comes the list of
-- what was made: meta fields by their numbers, and tables.
use Rattle.std.specs.Prelude.{ℕ, zero, suc, true, false, List, [], ◌∷◌, ◌++◌, if◌then◌else◌, Some, None}
use Rattle.cocoon_num.specs.Values.{BinaryOp, implies, or_, not_, equal}
use Rattle.cocoon_num.specs.Tree.{Param, Expr, name, Exprs, FunctionDecl, HeaderDecl, ResultKind, of_width, of_truth, field, lit, true_or_false, call, unary, binary, slice, pick, no_exprs, expr}
use Rattle.cocoon_num.specs.Names.{same_name}
use Rattle.p4_ir.specs.P4Tree.{P4Expr, p_lit, p_truth, p_meta, p_field, p_unary, p_binary, p_slice, p_pick, P4Stmt, P4Table, set_meta, apply_table}

-- how many there are so far
pub record Counts : Type 0 where
  pub app : ℕ
  pub var : ℕ
  pub field : ℕ
  pub site : ℕ

pub data FieldName : Type 0 where
  site_name : FieldName
  key_name : (app i : ℕ) → FieldName
  result_name : (app : ℕ) → FieldName
  var_name : (j : ℕ) → FieldName

-- a meta field at number i; a table that holds the function f, by arguments for these parameters
pub data Made : Type 0 where
  a_field : (name : FieldName) (i width : ℕ) → Made
  a_table : (t : P4Table) (f : List ℕ) (ps : List Param) → Made
  -- a table that holds the numbers of f's groups, by the arguments for these parameters
  a_group : (t : P4Table) (f : List ℕ) (ps : List Param) → Made

-- a variable and what it is read as
pub record Variable : Type 0 where
  pub name : List ℕ
  pub expr : P4Expr

pub record Lowered : Type 0 where
  pub code : List P4Stmt
  pub made : List Made
  pub expr : P4Expr
  pub next : Counts

pub record LoweredAll : Type 0 where
  pub code : List P4Stmt
  pub made : List Made
  pub exprs : List P4Expr
  pub next : Counts

-- ---- names

abbrev pub variable_expr : List Variable → List ℕ → P4Expr
variable_expr [] x = p_truth false
variable_expr (b ∷ vars) x = if same_name x b.name then b.expr else variable_expr vars x

abbrev pub place_in : List Param → List ℕ → ℕ
place_in [] f = 0
place_in (p ∷ ps) f = if same_name f p.name.text then zero else suc (place_in ps f)

abbrev pub header_place : List HeaderDecl → List ℕ → ℕ
header_place [] h = 0
header_place (d ∷ ds) h = if same_name h d.name.text then zero else suc (header_place ds h)

abbrev pub field_place : List HeaderDecl → List ℕ → List ℕ → ℕ
field_place [] h f = 0
field_place (d ∷ ds) h f = if same_name h d.name.text then place_in d.fields f else field_place ds h f

-- ---- expressions

-- what a body is lowered in: the headers, the lowering of a call over its arguments, that of a fork's table, and the
-- name of the port's parameter
pub record Callees : Type 0 where
  pub headers : List HeaderDecl
  pub call : List ℕ → List P4Expr → Counts → Lowered
  pub group : List ℕ → List P4Expr → Counts → Lowered
  pub port : List ℕ

abbrev pub p_operation : BinaryOp → P4Expr → P4Expr → P4Expr
p_operation implies a b = p_binary or_ (p_unary not_ a) b
p_operation op a b = p_binary op a b

abbrev pub plain : Counts → P4Expr → Lowered
plain n e = record { code = []; made = []; expr = e; next = n }

abbrev pub under : (P4Expr → P4Expr) → Lowered → Lowered
under f r = record { code = r.code; made = r.made; expr = f r.expr; next = r.next }

-- a second after a first
abbrev pub over : (P4Expr → P4Expr → P4Expr) → Lowered → Lowered → Lowered
over f a b = record { code = a.code ++ b.code; made = a.made ++ b.made; expr = f a.expr b.expr; next = b.next }

abbrev pub and_then : (P4Expr → P4Expr → P4Expr) → Lowered → (Counts → Lowered) → Lowered
and_then f a b = over f a (b a.next)

abbrev pub joined_three : Lowered → Lowered → Lowered → Lowered
joined_three c a b = record { code = c.code ++ (a.code ++ b.code); made = c.made ++ (a.made ++ b.made); expr = p_pick c.expr a.expr b.expr; next = b.next }

abbrev pub third : Lowered → Lowered → (Counts → Lowered) → Lowered
third c a b = joined_three c a (b a.next)

abbrev pub second_third : Lowered → (Counts → Lowered) → (Counts → Lowered) → Lowered
second_third c a b = third c (a c.next) b

abbrev pub called : LoweredAll → Lowered → Lowered
called a r = record { code = a.code ++ r.code; made = a.made ++ r.made; expr = r.expr; next = r.next }

abbrev pub then_called : LoweredAll → (List P4Expr → Counts → Lowered) → Lowered
then_called a f = called a (f a.exprs a.next)

abbrev pub put_before : Lowered → LoweredAll → LoweredAll
put_before a b = record { code = a.code ++ b.code; made = a.made ++ b.made; exprs = a.expr ∷ b.exprs; next = b.next }

abbrev pub then_all : Lowered → (Counts → LoweredAll) → LoweredAll
then_all a b = put_before a (b a.next)

abbrev mutual
  pub lower_expr : Callees → List Variable → Counts → Expr → Lowered
  lower_expr c vars n (name at x) = plain n (variable_expr vars x)
  lower_expr c vars n (field at h f) = plain n (p_field (header_place c.headers h.text) (field_place c.headers h.text f.text))
  lower_expr c vars n (lit at w x) = plain n (p_lit w x)
  lower_expr c vars n (true_or_false at b) = plain n (p_truth b)
  lower_expr c vars n (call at f es) = then_called (lower_exprs c vars n es) (c.call f.text)
  lower_expr c vars n (unary at op a) = under (p_unary op) (lower_expr c vars n a)
  lower_expr c vars n (binary at op a b) = and_then (p_operation op) (lower_expr c vars n a) (λ k. lower_expr c vars k b)
  lower_expr c vars n (slice at a high low) = under (λ e. p_slice e high low) (lower_expr c vars n a)
  lower_expr c vars n (pick at e a b) = second_third (lower_expr c vars n e) (λ k. lower_expr c vars k a) (λ k. lower_expr c vars k b)

  pub lower_exprs : Callees → List Variable → Counts → Exprs → LoweredAll
  lower_exprs c vars n no_exprs = record { code = []; made = []; exprs = []; next = n }
  lower_exprs c vars n (expr e es) = then_all (lower_expr c vars n e) (λ k. lower_exprs c vars k es)

-- ---- calls

abbrev pub kind_width : ResultKind → ℕ
kind_width (of_width w) = w
kind_width of_truth = 1

-- a result as it is kept in a field, and as it is read from the field i
abbrev pub kept : ResultKind → P4Expr → P4Expr
kept (of_width w) e = e
kept of_truth e = p_pick e (p_lit 1 1) (p_lit 1 0)

abbrev pub read_back : ResultKind → ℕ → P4Expr
read_back (of_width w) i = p_meta i
read_back of_truth i = p_binary equal (p_meta i) (p_lit 1 1)

-- the fields from i on are set to these
abbrev pub sets : ℕ → List P4Expr → List P4Stmt
sets i [] = []
sets i (e ∷ es) = set_meta i e ∷ sets (suc i) es

-- fields from i on with the widths of some parameters, their numbers, and the first number after them
abbrev pub fields_from : (ℕ → FieldName) → ℕ → ℕ → List Param → List Made
fields_from named j i [] = []
fields_from named j i (p ∷ ps) = a_field (named j) i p.width ∷ fields_from named (suc j) (suc i) ps

abbrev pub numbers_from : ℕ → List Param → List ℕ
numbers_from i [] = []
numbers_from i (p ∷ ps) = i ∷ numbers_from (suc i) ps

abbrev pub past : ℕ → List Param → ℕ
past i [] = i
past i (p ∷ ps) = past (suc i) ps

abbrev pub variables_from : ℕ → List Param → List Variable
variables_from i [] = []
variables_from i (p ∷ ps) = record { name = p.name.text; expr = p_meta i } ∷ variables_from (suc i) ps

abbrev pub by_table : FunctionDecl → List P4Expr → Counts → Lowered
by_table d es n = record {
  code = sets n.field es ++ (apply_table n.app ∷ []);
  made = fields_from (key_name n.app) 0 n.field d.params ++ (a_field (result_name n.app) (past n.field d.params) (kind_width d.result)
      ∷ a_table (record { number = n.app; exact = false; keys = numbers_from n.field d.params; result = past n.field d.params }) d.name.text d.params ∷ []);
  expr = read_back d.result (past n.field d.params);
  next = record { app = suc n.app; var = n.var; field = suc (past n.field d.params); site = n.site };
}

-- a function's body r over its parameters' fields, after these are set
abbrev pub closed : FunctionDecl → List P4Expr → Counts → Lowered → Lowered
closed d es n r = record {
  code = sets n.field es ++ (r.code ++ (set_meta r.next.field (kept d.result r.expr) ∷ []));
  made = fields_from var_name n.var n.field d.params ++ (r.made ++ (a_field (var_name r.next.var) r.next.field (kind_width d.result) ∷ []));
  expr = read_back d.result r.next.field;
  next = record { app = r.next.app; var = suc r.next.var; field = suc r.next.field; site = r.next.site };
}

abbrev pub after_args : FunctionDecl → Counts → Counts
after_args d n = record { app = n.app; var = past n.var d.params; field = past n.field d.params; site = n.site }

-- all but the last, which stands for the fork's choice
abbrev pub before_last_from : Param → List Param → List Param
before_last_from p [] = []
before_last_from p (q ∷ ps) = p ∷ before_last_from q ps

abbrev pub params_before_last : List Param → List Param
params_before_last [] = []
params_before_last (p ∷ ps) = before_last_from p ps

abbrev pub by_group : FunctionDecl → List P4Expr → Counts → Lowered
by_group d es n = record {
  code = sets n.field es ++ (apply_table n.app ∷ []);
  made = fields_from (key_name n.app) 0 n.field (params_before_last d.params) ++ (a_field (result_name n.app) (past n.field (params_before_last d.params)) 16
      ∷ a_group (record { number = n.app; exact = true; keys = numbers_from n.field (params_before_last d.params); result = past n.field (params_before_last d.params) }) d.name.text (params_before_last d.params) ∷ []);
  expr = p_meta (past n.field (params_before_last d.params));
  next = record { app = suc n.app; var = n.var; field = suc (past n.field (params_before_last d.params)); site = n.site };
}

abbrev pub lower_group : List FunctionDecl → List ℕ → List P4Expr → Counts → Lowered
lower_group [] f es n = plain n (p_truth false)
lower_group (d ∷ earlier) f es n = if same_name f d.name.text then by_group d es n else lower_group earlier f es n

-- a call of the first of these functions of that name; its body sees those after it
abbrev pub lower_call : List HeaderDecl → List FunctionDecl → List ℕ → List P4Expr → Counts → Lowered
lower_call headers [] f es n = plain n (p_truth false)
lower_call headers (d ∷ earlier) f es n =
    if same_name f d.name.text then
    elim d.body [
      | None ↦ by_table d es n
      | Some e ↦ closed d es n (lower_expr (record { headers = headers; call = lower_call headers earlier; group = lower_group earlier; port = [] }) (variables_from n.field d.params) (after_args d n) e)
    ]
    else lower_call headers earlier f es n

abbrev pub callees : List HeaderDecl → List FunctionDecl → List ℕ → Callees
callees headers functions port = record { headers = headers; call = lower_call headers functions; group = lower_group functions; port = port }
