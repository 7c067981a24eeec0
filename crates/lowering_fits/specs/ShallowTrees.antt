-- Cited by `readings_are_shallow`, and by the laws of lowering. Trees of designs that are no deeper than the texts of designs may
-- be: an expression has at most as many operators, and at most as many blocks stand within one another, as at a token that is
-- not deep. Brackets around expressions leave no node. It follows the section "Grammar" of docs/LANGUAGE.md.
use Rattle.std.specs.Prelude.{ℕ, zero, suc, ◌+◌, ◌≤◌, List, [], ◌∷◌, Option, Some, None}
use Rattle.cocoon_num.specs.Tokens.{language_bounds}
use Rattle.cocoon_num.specs.Tree.{Expr, name, field, lit, true_or_false, call, unary, binary, slice, pick, Exprs, no_exprs, expr, Stmt, let_, set_field, if_, filter, havoc_var, havoc_field, assume, fork, send, Block, no_stmts, stmt, Decl, a_function, an_assumption, a_role, a_host, a_switch, Refine, Design}

-- ---- expressions

abbrev mutual
  -- those of the text, arguments of calls included: a slice has `[` and `:`, a choice `?` and `:`
  pub operators_in : Expr → ℕ
  operators_in (name at x) = 0
  operators_in (field at h f) = 0
  operators_in (lit at w n) = 0
  operators_in (true_or_false at b) = 0
  operators_in (call at f es) = operators_in_all es
  operators_in (unary at op a) = suc (operators_in a)
  operators_in (binary at op a b) = suc (operators_in a + operators_in b)
  operators_in (slice at a high low) = suc (suc (operators_in a))
  operators_in (pick at c a b) = suc (suc (operators_in c + operators_in a + operators_in b))

  pub operators_in_all : Exprs → ℕ
  operators_in_all no_exprs = 0
  operators_in_all (expr e es) = operators_in e + operators_in_all es

abbrev pub FewOperators : Expr → Type 0
FewOperators e = operators_in e ≤ language_bounds.operators_most

-- ---- statements

abbrev mutual
  -- its expressions have few operators, and at most n of its blocks stand within one another
  pub ShallowStmt : (n : ℕ) → Stmt → Type 0
  ShallowStmt n (let_ at x w e) = FewOperators e
  ShallowStmt n (set_field at h f e) = FewOperators e
  ShallowStmt zero (if_ at e a b) = ⊥
  ShallowStmt (suc n) (if_ at e a b) = FewOperators e × ShallowBlock n a × ShallowBlock n b
  ShallowStmt n (filter at e) = FewOperators e
  ShallowStmt n (havoc_var at x w) = Unit {0}
  ShallowStmt n (havoc_field at h f) = Unit {0}
  ShallowStmt n (assume at e) = FewOperators e
  ShallowStmt zero (fork at x w e b) = ⊥
  ShallowStmt (suc n) (fork at x w e b) = FewOperators e × ShallowBlock n b
  ShallowStmt n (send at r es) = operators_in_all es ≤ language_bounds.operators_most

  pub ShallowBlock : (n : ℕ) → Block → Type 0
  ShallowBlock n no_stmts = Unit {0}
  ShallowBlock n (stmt s rest) = ShallowStmt n s × ShallowBlock n rest

-- ---- declarations

abbrev pub FewInBody : Option Expr → Type 0
FewInBody None = Unit {0}
FewInBody (Some e) = FewOperators e

abbrev pub ShallowBody : Option Block → Type 0
ShallowBody None = Unit {0}
ShallowBody (Some b) = ShallowBlock language_bounds.open_most b

abbrev pub ShallowDecl : Decl → Type 0
ShallowDecl (a_function f) = FewInBody f.body
ShallowDecl (an_assumption a) = FewOperators a.body
ShallowDecl (a_role r) = FewOperators r.guard × ShallowBody r.body
ShallowDecl (a_host h) = Unit {0}
ShallowDecl (a_switch s) = Unit {0}

abbrev pub ShallowDecls : List Decl → Type 0
ShallowDecls [] = Unit {0}
ShallowDecls (d ∷ ds) = ShallowDecl d × ShallowDecls ds

abbrev pub ShallowRefines : List Refine → Type 0
ShallowRefines [] = Unit {0}
ShallowRefines (b ∷ bs) = ShallowDecls b.decls × ShallowRefines bs

abbrev pub IsShallowTree : Design → Type 0
IsShallowTree d = ShallowDecls d.decls × ShallowRefines d.refines
