-- Cited by the clauses of the copies here, of the parser, of cocoon_text and of all that takes a tree: the trees of the
-- definitions that the trees of the code stand for.
use Rattle.std.specs.Prelude.{ℕ, List, [], ◌∷◌, map, option_map, Vec}
use Rattle.std.specs.declared.alloc.Global.{Global}
use Rattle.cocoon_num.specs.Tree as tree
use Rattle.cocoon_num.specs.Values as values
use Rattle.cocoon_syntax.specs.declared.name.Name.{Name}
use Rattle.cocoon_syntax.specs.declared.expr.UnaryOp.{UnaryOp}
use Rattle.cocoon_syntax.specs.declared.expr.UnaryOp.TheVariants.{Flip, Not}
use Rattle.cocoon_syntax.specs.declared.expr.BinaryOp.{BinaryOp}
use Rattle.cocoon_syntax.specs.declared.expr.BinaryOp.TheVariants as ops
use Rattle.cocoon_syntax.specs.declared.expr.Expr.{Expr, fold-Expr}
use Rattle.cocoon_syntax.specs.declared.expr.ExprKind.{ExprKind, fold-ExprKind}
use Rattle.cocoon_syntax.specs.declared.expr.ExprKind.TheOpen.{ExprKind-F, Expr-F}
use Rattle.cocoon_syntax.specs.declared.stmt.Stmt.{Stmt, fold-Stmt}
use Rattle.cocoon_syntax.specs.declared.stmt.StmtKind.{StmtKind, fold-StmtKind}
use Rattle.cocoon_syntax.specs.declared.stmt.StmtKind.TheOpen.{StmtKind-F, Stmt-F}
use Rattle.cocoon_syntax.specs.declared.decl.Param.{Param}
use Rattle.cocoon_syntax.specs.declared.decl.ResultKind.{ResultKind}
use Rattle.cocoon_syntax.specs.declared.decl.ResultKind.TheVariants as results
use Rattle.cocoon_syntax.specs.declared.decl.FunctionDecl.{FunctionDecl}
use Rattle.cocoon_syntax.specs.declared.decl.AssumeDecl.{AssumeDecl}
use Rattle.cocoon_syntax.specs.declared.decl.Role.{Role}
use Rattle.cocoon_syntax.specs.declared.decl.HostDecl.{HostDecl}
use Rattle.cocoon_syntax.specs.declared.decl.SwitchDecl.{SwitchDecl}
use Rattle.cocoon_syntax.specs.declared.decl.Decl.{Decl}
use Rattle.cocoon_syntax.specs.declared.decl.Decl.TheVariants as decls
use Rattle.cocoon_syntax.specs.declared.decl.Refine.{Refine}
use Rattle.cocoon_syntax.specs.declared.decl.HeaderDecl.{HeaderDecl}
use Rattle.cocoon_syntax.specs.declared.decl.Design.{Design}
use Rattle.cocoon_syntax.specs.declared.defs.Pattern.{Pattern}
use Rattle.cocoon_syntax.specs.declared.defs.Pattern.TheVariants as patterns
use Rattle.cocoon_syntax.specs.declared.defs.Const.{Const}
use Rattle.cocoon_syntax.specs.declared.defs.Const.TheVariants as consts
use Rattle.cocoon_syntax.specs.declared.defs.Entry.{Entry}
use Rattle.cocoon_syntax.specs.declared.defs.Entry.TheVariants as entries
use Rattle.cocoon_syntax.specs.declared.defs.DefsText.{DefsText}

-- ---- names and operators

-- the name with its token index
abbrev pub name_of : Name → tree.Name
name_of n = record { at = n.at; text = n.text }

-- the operator of the same meaning
abbrev pub unary_of : UnaryOp → values.UnaryOp
unary_of Flip = values.flip
unary_of Not = values.not_

-- the operator of the same meaning
abbrev pub binary_of : BinaryOp → values.BinaryOp
binary_of ops.Add = values.add
binary_of ops.Sub = values.sub
binary_of ops.BitAnd = values.bits_and
binary_of ops.BitOr = values.bits_or
binary_of ops.BitXor = values.bits_xor
binary_of ops.Concat = values.concat
binary_of ops.Equal = values.equal
binary_of ops.Unequal = values.unequal
binary_of ops.Less = values.less
binary_of ops.LessEqual = values.less_equal
binary_of ops.Greater = values.greater
binary_of ops.GreaterEqual = values.greater_equal
binary_of ops.And = values.and_
binary_of ops.Or = values.or_
binary_of ops.Implies = values.implies

-- ---- expressions

-- the trees of a list, as the trees have lists
abbrev pub exprs_of : List tree.Expr → tree.Exprs
exprs_of [] = tree.no_exprs
exprs_of (e ∷ es) = tree.expr e (exprs_of es)

-- one level of a kind, with each tree inside already seen: the expression but for its token index
abbrev pub kind_step : ExprKind-F (ℕ → tree.Expr) tree.Expr → ℕ → tree.Expr
kind_step (ExprKind-F.Name t) at = tree.name at t
kind_step (ExprKind-F.Field h f) at = tree.field at (name_of h) (name_of f)
kind_step (ExprKind-F.Lit b) at = tree.lit at b.width b.value
kind_step (ExprKind-F.Truth b) at = tree.true_or_false at b
kind_step (ExprKind-F.Call f es) at = tree.call at (name_of f) (exprs_of es.items)
kind_step (ExprKind-F.Unary op a) at = tree.unary at (unary_of op) a.value
kind_step (ExprKind-F.Binary op a b) at = tree.binary at (binary_of op) a.value b.value
kind_step (ExprKind-F.Slice a high low) at = tree.slice at a.value high low
kind_step (ExprKind-F.Pick c a b) at = tree.pick at c.value a.value b.value

-- one level: the kind with its token index
abbrev pub expr_step : Expr-F (ℕ → tree.Expr) tree.Expr → tree.Expr
expr_step e = e.kind e.at

-- the expression of a kind and a token index
abbrev pub kind_of : ExprKind → ℕ → tree.Expr
kind_of = fold-ExprKind (ℕ → tree.Expr) tree.Expr kind_step expr_step

-- the expression
abbrev pub expr_of : Expr → tree.Expr
expr_of = fold-Expr (ℕ → tree.Expr) tree.Expr kind_step expr_step

-- ---- statements

-- the trees of a list, as the trees have lists
abbrev pub block_of : List tree.Stmt → tree.Block
block_of [] = tree.no_stmts
block_of (s ∷ ss) = tree.stmt s (block_of ss)

-- one level of a kind, with each statement inside already seen: the statement but for its token index
abbrev pub stmt_kind_step : StmtKind-F (ℕ → tree.Stmt) tree.Stmt → ℕ → tree.Stmt
stmt_kind_step (StmtKind-F.Let x w e) at = tree.let_ at (name_of x) w (expr_of e)
stmt_kind_step (StmtKind-F.SetField h f e) at = tree.set_field at (name_of h) (name_of f) (expr_of e)
stmt_kind_step (StmtKind-F.If e a b) at = tree.if_ at (expr_of e) (block_of a.items) (block_of b.items)
stmt_kind_step (StmtKind-F.Filter e) at = tree.filter at (expr_of e)
stmt_kind_step (StmtKind-F.HavocVar x w) at = tree.havoc_var at (name_of x) w
stmt_kind_step (StmtKind-F.HavocField h f) at = tree.havoc_field at (name_of h) (name_of f)
stmt_kind_step (StmtKind-F.Assume e) at = tree.assume at (expr_of e)
stmt_kind_step (StmtKind-F.Fork x w e body) at = tree.fork at (name_of x) w (expr_of e) (block_of body.items)
stmt_kind_step (StmtKind-F.Send r es) at = tree.send at (name_of r) (exprs_of (map expr_of es.items))

-- one level: the kind with its token index
abbrev pub stmt_step : Stmt-F (ℕ → tree.Stmt) tree.Stmt → tree.Stmt
stmt_step s = s.kind s.at

-- the statement of a kind and a token index
abbrev pub stmt_kind_of : StmtKind → ℕ → tree.Stmt
stmt_kind_of = fold-StmtKind (ℕ → tree.Stmt) tree.Stmt stmt_kind_step stmt_step

-- the statement
abbrev pub stmt_of : Stmt → tree.Stmt
stmt_of = fold-Stmt (ℕ → tree.Stmt) tree.Stmt stmt_kind_step stmt_step

-- ---- declarations

-- the parameter or field
abbrev pub param_of : Param → tree.Param
param_of p = record { name = name_of p.name; width = p.width }

-- what a function gives
abbrev pub result_of : ResultKind → tree.ResultKind
result_of (results.Width w) = tree.of_width w
result_of results.Truth = tree.of_truth

-- the function
abbrev pub function_of : FunctionDecl → tree.FunctionDecl
function_of f = record { name = name_of f.name; params = map param_of f.params.items; result = result_of f.result; body = option_map expr_of f.body }

-- the assumption
abbrev pub assume_of : AssumeDecl → tree.AssumeDecl
assume_of a = record { at = a.at; params = map param_of a.params.items; body = expr_of a.body }

-- the body of a role
abbrev pub body_of : Vec Stmt Global → tree.Block
body_of ss = block_of (map stmt_of ss.items)

-- the role
abbrev pub role_of : Role → tree.Role
role_of r = record { name = name_of r.name; params = map param_of r.params.items; guard = expr_of r.guard; body = option_map body_of r.body }

-- the two roles of hosts
abbrev pub host_of : HostDecl → tree.HostDecl
host_of h = record { at = h.at; entry = name_of h.entry; sink = name_of h.sink }

-- the two roles of switches
abbrev pub switch_of : SwitchDecl → tree.SwitchDecl
switch_of s = record { at = s.at; into = name_of s.into; out = name_of s.out; ports = s.ports }

-- the declaration
abbrev pub decl_of : Decl → tree.Decl
decl_of (decls.Function f) = tree.a_function (function_of f)
decl_of (decls.Assume a) = tree.an_assumption (assume_of a)
decl_of (decls.Role r) = tree.a_role (role_of r)
decl_of (decls.Host h) = tree.a_host (host_of h)
decl_of (decls.Switch s) = tree.a_switch (switch_of s)

-- the refinement
abbrev pub refine_of : Refine → tree.Refine
refine_of r = record { at = r.at; roles = map name_of r.roles.items; within = r.within; decls = map decl_of r.decls.items }

-- the header
abbrev pub header_of : HeaderDecl → tree.HeaderDecl
header_of h = record { name = name_of h.name; fields = map param_of h.fields.items }

-- the design
abbrev pub design_of : Design → tree.Design
design_of d = record { headers = map header_of d.headers.items; decls = map decl_of d.decls.items; refines = map refine_of d.refines.items }

-- ---- definitions

-- the pattern
abbrev pub pattern_of : Pattern → tree.Pattern
pattern_of (patterns.Literal b) = tree.literal b.width b.value
pattern_of (patterns.Masked b mask) = tree.masked b.width b.value mask.width mask.value
pattern_of patterns.Any = tree.any

-- the value of a constant
abbrev pub const_of : Const → values.Value
const_of (consts.Number b) = values.number b.width b.value
const_of (consts.Truth b) = values.truth b

-- the entry
abbrev pub entry_of : Entry → tree.Entry
entry_of (entries.Default f c) = tree.a_default (name_of f) (const_of c)
entry_of (entries.Define f ps c) = tree.a_row (name_of f) (map pattern_of ps.items) (const_of c)

-- the definitions
abbrev pub entries_of : DefsText → tree.DefsText
entries_of d = map entry_of d.entries.items
