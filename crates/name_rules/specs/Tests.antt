-- Cited by the clauses of the walk: which faults of names stand at each part of a design, and the scope at a point of it.
use Rattle.std.specs.Prelude.{ℕ, nat_le, ◌||◌, Bool, false, List, take, Option, Some, None}
use Rattle.std.specs.List.{list_any}
use Rattle.cocoon_num.specs.Tree.{Param, Expr, Stmt, Block, Design}
use Rattle.cocoon_types.specs.Design.{functions}
use Rattle.cocoon_types.specs.Typing.{Scope}
use Rattle.cocoon_types.specs.Sites.{ExprSite, StmtSite, DeclSite, parts_at, stmts_at, stmts_in, stmts_of_decl, exprs_of_stmt, exprs_of_decl}
use Rattle.cocoon_types.specs.Rules.{twice, unknown_name, late_function, unknown_role}
use Rattle.cocoon_types.specs.NameRules.{bound_again, unknown_in_expr, unknown_in_stmt, late_in_expr, unknown_role_in_stmt}
use Rattle.cocoon_types.specs.FirstFault.{Fault}
use Rattle.cocoon_types.specs.Among.{among}
use Rattle.name_rules.specs.declared.point.Point.{Point}

-- the scope at a point of a design
abbrev pub scope_at : Design → Point → List Param → (packet : Bool) → Scope
scope_at d p vars packet =
    record { design = d; vars = vars; before = take p.functions (functions d); level = p.level; packet = packet }

-- the function of this number is not among the first n
abbrev pub is_from : ℕ → Option ℕ → Bool
is_from n None = false
is_from n (Some i) = nat_le n i

-- ---- expressions

-- the fault stands at an expression, its parts aside
abbrev pub at_expr : ExprSite → Fault → Bool
at_expr site f = among unknown_name (unknown_in_expr site) f || among late_function (late_in_expr site) f

-- it stands at an expression or at a part of it
abbrev pub in_expr : Scope → Expr → Fault → Bool
in_expr s e f = list_any (λ site. at_expr site f) (parts_at s e)

-- it stands at one of some expressions or at a part of one
abbrev pub in_exprs : Scope → List Expr → Fault → Bool
in_exprs s es f = list_any (λ e. in_expr s e f) es

-- ---- statements

-- it stands at a statement itself
abbrev pub at_stmt : StmtSite → Fault → Bool
at_stmt site f =
    among twice (bound_again site) f || among unknown_name (unknown_in_stmt site) f
    || among unknown_role (unknown_role_in_stmt site) f

-- it stands at a statement or in an expression of it
abbrev pub with_exprs : StmtSite → Fault → Bool
with_exprs site f = at_stmt site f || list_any (λ x. at_expr x f) (exprs_of_stmt site)

-- it stands in a statement, its blocks included
abbrev pub in_stmt : Scope → (ended : Bool) → Stmt → Fault → Bool
in_stmt s ended a f = list_any (λ site. with_exprs site f) (stmts_at s ended a)

-- it stands in a block, or in the rest of one
abbrev pub in_block : Scope → (ended : Bool) → Block → Fault → Bool
in_block s ended b f = list_any (λ site. with_exprs site f) (stmts_in s ended b)

-- ---- declarations

-- it stands in an expression or a statement of a declaration
abbrev pub in_decl : DeclSite → Fault → Bool
in_decl site f = list_any (λ x. at_expr x f) (exprs_of_decl site) || list_any (λ x. with_exprs x f) (stmts_of_decl site)

-- it stands in one of some declarations
abbrev pub in_decls : List DeclSite → Fault → Bool
in_decls sites f = list_any (λ s. in_decl s f) sites
