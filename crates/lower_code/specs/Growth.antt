-- Cited by the clauses of all that lowers: what was lowered so far, and what comes after it.
use Rattle.std.specs.Prelude.{ℕ, suc, Bool, List, [], ◌∷◌, ◌++◌, map, slice_get, Some, None}
use Rattle.cocoon_num.specs.Tree.{Param, ResultKind, Design}
use Rattle.cocoon_types.specs.Design.{functions}
use Rattle.p4_ir.specs.P4Tree as tree
use Rattle.p4_ir.specs.P4Tree.{set_meta, apply_table}
use Rattle.p4_ir.specs.Program.{expr_of, stmt_of, table_of}
use Rattle.p4_ir.specs.declared.program.P4Expr.{P4Expr}
use Rattle.p4_ir.specs.declared.program.P4Stmt.{P4Stmt}
use Rattle.lowering.specs.Lower.{site_name, key_name, result_name, var_name, a_field, a_table, a_group, params_before_last, fields_from, numbers_from, past, sets, kept, kind_width, read_back, Lowered, LoweredAll}
use Rattle.lowering.specs.Lower as lower
use Rattle.lower_code.specs.declared.made.Counts.{Counts}
use Rattle.lower_code.specs.declared.made.FieldName.{FieldName}
use Rattle.lower_code.specs.declared.made.FieldName.TheVariants as names
use Rattle.lower_code.specs.declared.made.Made.{Made}
use Rattle.lower_code.specs.declared.made.Made.TheVariants as parts
use Rattle.lower_code.specs.declared.made.Lowering.{Lowering}

-- the name of a meta field
abbrev pub field_name_of : FieldName → lower.FieldName
field_name_of names.Site = site_name
field_name_of (names.Key app i) = key_name app i
field_name_of (names.Result app) = result_name app
field_name_of (names.Variable j) = var_name j

-- the name of the function of a number
abbrev pub text_at : Design → ℕ → List ℕ
text_at d f = elim (slice_get (functions d) f) [ Some g ↦ g.name.text | None ↦ [] ]

-- its parameters
abbrev pub params_at : Design → ℕ → List Param
params_at d f = elim (slice_get (functions d) f) [ Some g ↦ g.params | None ↦ [] ]

-- what was made
abbrev pub made_of : Design → Made → lower.Made
made_of d (parts.Field f) = a_field (field_name_of f.name) f.number f.width
made_of d (parts.Table t f) = a_table (table_of t) (text_at d f) (params_at d f)
made_of d (parts.Group t f) = a_group (table_of t) (text_at d f) (params_before_last (params_at d f))

abbrev pub made_in : Design → List Made → List lower.Made
made_in d ms = map (made_of d) ms

-- the numbers that come next
abbrev pub counts_of : Counts → lower.Counts
counts_of n = record { app = n.app; var = n.variable; field = n.field; site = n.site }

-- what was made so far, and the numbers that come next
pub record Counted : Type 0 where
  pub made : List lower.Made
  pub next : lower.Counts

abbrev pub counted : Design → Lowering → Counted
counted d l = record { made = made_in d l.made.items; next = counts_of l.counts }

-- with one more meta field
abbrev pub with_field : Counted → lower.FieldName → ℕ → Counted
with_field c x w = record {
  made = c.made ++ a_field x c.next.field w ∷ [];
  next = record { app = c.next.app; var = c.next.var; field = suc c.next.field; site = c.next.site };
}

-- with that of one more variable
abbrev pub with_variable : Counted → ℕ → Counted
with_variable c w = record {
  made = c.made ++ a_field (var_name c.next.var) c.next.field w ∷ [];
  next = record { app = c.next.app; var = suc c.next.var; field = suc c.next.field; site = c.next.site };
}

-- with those of a table's keys, from this key on
abbrev pub with_keys : Counted → ℕ → ℕ → List Param → Counted
with_keys c app key ps = record {
  made = c.made ++ fields_from (key_name app) key c.next.field ps;
  next = record { app = c.next.app; var = c.next.var; field = past c.next.field ps; site = c.next.site };
}

-- with those of parameters as variables
abbrev pub with_parameters : Counted → List Param → Counted
with_parameters c ps = record {
  made = c.made ++ fields_from var_name c.next.var c.next.field ps;
  next = record { app = c.next.app; var = past c.next.var ps; field = past c.next.field ps; site = c.next.site };
}

-- that with the code so far
pub record SoFar : Type 0 where
  pub code : List tree.P4Stmt
  pub made : List lower.Made
  pub next : lower.Counts

abbrev pub so_far : Design → Lowering → List P4Stmt → SoFar
so_far d l code = record { code = map stmt_of code; made = made_in d l.made.items; next = counts_of l.counts }

-- then this code and what it needs, up to these counts
abbrev pub grown : SoFar → List tree.P4Stmt → List lower.Made → lower.Counts → SoFar
grown s code made next = record { code = s.code ++ code; made = s.made ++ made; next = next }

-- then a lowered expression, and what it is read as
abbrev pub with_expr : SoFar → Lowered → SoFar × tree.P4Expr
with_expr s r = (grown s r.code r.made r.next, r.expr)

-- then several, and what they are read as
abbrev pub with_exprs : SoFar → LoweredAll → SoFar × List tree.P4Expr
with_exprs s r = (grown s r.code r.made r.next, r.exprs)

-- what was lowered so far, and an expression
abbrev pub reached : Design → Lowering → List P4Stmt → P4Expr → SoFar × tree.P4Expr
reached d l code e = (so_far d l code, expr_of e)

abbrev pub all_reached : Design → Lowering → List P4Stmt → List P4Expr → SoFar × List tree.P4Expr
all_reached d l code es = (so_far d l code, map expr_of es)

-- a table with these keys is applied to arguments: the code, what it needs, and the table
abbrev pub applied_code : List tree.P4Expr → lower.Counts → List tree.P4Stmt
applied_code es n = sets n.field es ++ (apply_table n.app ∷ [])

abbrev pub applied_fields : List Param → ℕ → lower.Counts → List lower.Made
applied_fields ps w n = fields_from (key_name n.app) 0 n.field ps ++ (a_field (result_name n.app) (past n.field ps) w ∷ [])

abbrev pub applied_counts : List Param → lower.Counts → lower.Counts
applied_counts ps n = record { app = suc n.app; var = n.var; field = suc (past n.field ps); site = n.site }

abbrev pub table_for : Bool → List Param → lower.Counts → tree.P4Table
table_for exact ps n = record { number = n.app; exact = exact; keys = numbers_from n.field ps; result = past n.field ps }

-- the value of a function's body is kept in a field of its own
abbrev pub keeps_result : ResultKind → tree.P4Expr → lower.Counts → Lowered
keeps_result kind e n = record {
  code = set_meta n.field (kept kind e) ∷ [];
  made = a_field (var_name n.var) n.field (kind_width kind) ∷ [];
  expr = read_back kind n.field;
  next = record { app = n.app; var = suc n.var; field = suc n.field; site = n.site };
}
