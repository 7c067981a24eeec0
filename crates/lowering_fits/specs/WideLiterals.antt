-- Cited by the law of kinds: designs whose literals have 1 to 128 bits, and whose functions have parameters. No rule of designs
-- speaks of either: the literals and the functions of a text are so.
use Rattle.std.specs.Prelude.{◌==◌, ◌&&◌, Bool, true, not, nat_le, length, Option, Some, None}
use Rattle.std.specs.List.{list_all}
use Rattle.cocoon_num.specs.Tree.{Expr, name, field, lit, true_or_false, call, unary, binary, slice, pick, Exprs, no_exprs, expr, Stmt, let_, set_field, if_, filter, havoc_var, havoc_field, assume, fork, send, Block, no_stmts, stmt, FunctionDecl, Decl, a_function, an_assumption, a_role, a_host, a_switch, Design}
use Rattle.cocoon_types.specs.Design.{all_decls, functions}

-- ---- literals

abbrev mutual
  -- all literals of an expression
  pub wide_expr : Expr → Bool
  wide_expr (name at x) = true
  wide_expr (field at h f) = true
  wide_expr (lit at w n) = nat_le 1 w && nat_le w 128
  wide_expr (true_or_false at b) = true
  wide_expr (call at f es) = wide_exprs es
  wide_expr (unary at op a) = wide_expr a
  wide_expr (binary at op a b) = wide_expr a && wide_expr b
  wide_expr (slice at a high low) = wide_expr a
  wide_expr (pick at c a b) = wide_expr c && wide_expr a && wide_expr b

  pub wide_exprs : Exprs → Bool
  wide_exprs no_exprs = true
  wide_exprs (expr e es) = wide_expr e && wide_exprs es

abbrev mutual
  -- of a statement
  pub wide_stmt : Stmt → Bool
  wide_stmt (let_ at x w e) = wide_expr e
  wide_stmt (set_field at h f e) = wide_expr e
  wide_stmt (if_ at e a b) = wide_expr e && wide_block a && wide_block b
  wide_stmt (filter at e) = wide_expr e
  wide_stmt (havoc_var at x w) = true
  wide_stmt (havoc_field at h f) = true
  wide_stmt (assume at e) = wide_expr e
  wide_stmt (fork at x w e b) = wide_expr e && wide_block b
  wide_stmt (send at r es) = wide_exprs es

  pub wide_block : Block → Bool
  wide_block no_stmts = true
  wide_block (stmt first rest) = wide_stmt first && wide_block rest

-- what is there is so
abbrev pub if_some : {A : Type 0} → (A → Bool) → Option A → Bool
if_some f None = true
if_some f (Some a) = f a

-- of what is lowered of a declaration
abbrev pub wide_decl : Decl → Bool
wide_decl (a_function f) = if_some wide_expr f.body
wide_decl (an_assumption a) = true
wide_decl (a_role r) = if_some wide_block r.body
wide_decl (a_host h) = true
wide_decl (a_switch s) = true

-- and of a design
abbrev pub has_wide_literals : Design → Bool
has_wide_literals d = list_all wide_decl (all_decls d)

-- ---- parameters

-- each function has a parameter
abbrev pub has_params : Design → Bool
has_params d = list_all (λ (f : FunctionDecl). not (length f.params == 0)) (functions d)
