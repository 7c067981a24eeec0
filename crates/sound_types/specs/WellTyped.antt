-- Cited by the clauses of all laws here: expressions, statements and bodies that are well typed in a scope.
use Rattle.std.specs.Prelude.{◌≡◌, ℕ, Bool, true, false, List, [], ◌∷◌, take, Some, is_some}
use Rattle.std.specs.List.{list_all}
use Rattle.cocoon_num.specs.Names.{named}
use Rattle.cocoon_num.specs.Sorts.{Sort, bits_sort, truth_sort, is_declared_width}
use Rattle.cocoon_num.specs.Tree.{Expr, call, Exprs, no_exprs, expr, Stmt, let_, set_field, if_, filter, havoc_var, havoc_field, assume, fork, send, Block, no_stmts, stmt, Param, FunctionDecl, Role, Design}
use Rattle.cocoon_types.specs.Design.{field_width, functions, role_at, widths_of}
use Rattle.cocoon_types.specs.Parts.{parts}
use Rattle.cocoon_types.specs.Sites.{after_stmt}
use Rattle.cocoon_types.specs.Typing.{Scope, sort_of, with_var}
use Rattle.sound_types.specs.Literals.{LiteralsFit}

-- what is in scope at a level, where these are the variables; every function of the design is
abbrev pub scope_at : Design → (level : ℕ) → List Param → (packet : Bool) → Scope
scope_at d i vars packet = record { design = d; vars = vars; before = functions d; level = i; packet = packet }

-- the expression is of the type, and its literals fit
abbrev pub HasType : Scope → Sort → Expr → Type 0
HasType s t e = (sort_of s e ≡ Some t) × LiteralsFit e

-- the expressions are numbers of these widths, as many
abbrev pub HaveWidths : Scope → List ℕ → Exprs → Type 0
HaveWidths s [] no_exprs = Unit {0}
HaveWidths s (w ∷ ws) (expr e es) = HasType s (bits_sort w) e × HaveWidths s ws es
HaveWidths s _ _ = ⊥

-- the width may be declared
abbrev pub IsDeclared : ℕ → Type 0
IsDeclared w = is_declared_width w ≡ true

abbrev mutual
  -- the statement is well typed
  pub IsTypedStmt : Scope → Stmt → Type 0
  IsTypedStmt s (let_ at x w e) = IsDeclared w × HasType s (bits_sort w) e
  IsTypedStmt s (set_field at h f e) = (w : ℕ) × (field_width s.design.headers h.text f.text ≡ Some w) × HasType s (bits_sort w) e
  IsTypedStmt s (if_ at e a b) = HasType s truth_sort e × IsTyped s a × IsTyped s b
  IsTypedStmt s (filter at e) = HasType s truth_sort e
  IsTypedStmt s (havoc_var at x w) = IsDeclared w
  IsTypedStmt s (havoc_field at h f) = (w : ℕ) × (field_width s.design.headers h.text f.text ≡ Some w)
  IsTypedStmt s (assume at e) = HasType s truth_sort e
  IsTypedStmt s (fork at x w e b) = IsDeclared w × HasType (with_var x w s) truth_sort e × IsTyped (with_var x w s) b
  IsTypedStmt s (send at r es) = (x : Role) × (role_at s.level s.design r.text ≡ Some x) × HaveWidths s (widths_of x.params) es

  -- each statement of the block is, in the scope after those before it
  pub IsTyped : Scope → Block → Type 0
  IsTyped s no_stmts = Unit {0}
  IsTyped s (stmt first rest) = IsTypedStmt s first × IsTyped (after_stmt first s) rest

-- the guard of a role of a level is a truth value, and its body is well typed
pub record IsTypedRole (d : Design) (level : ℕ) (r : Role) : Type 0 where
  pub guard : HasType (scope_at d level r.params false) truth_sort r.guard
  pub body : (b : Block) → r.body ≡ Some b → IsTyped (scope_at d level r.params true) b

-- ---- bodies of functions

-- what is in scope in the body of the function of a number, where these are the variables: the functions before it
abbrev pub scope_in : Design → (function : ℕ) → List Param → Scope
scope_in d n vars = record { design = d; vars = vars; before = take n (functions d); level = 0; packet = false }

-- where the expression is a call, the function is declared before
abbrev pub calls_before : Scope → Expr → Bool
calls_before s e = elim e [ call at f es ↦ is_some (named (λ (d : FunctionDecl). d.name) f.text s.before) | _ ↦ true ]

-- the expression is of the type, its literals fit, and it calls functions that are declared before alone
abbrev pub HasTypeBefore : Scope → Sort → Expr → Type 0
HasTypeBefore s t e = HasType s t e × (list_all (calls_before s) (parts e) ≡ true)
