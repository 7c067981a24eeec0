-- Cited by `switches_depart` and `forks_are_served`. The forks of a body: their form, and the groups that serve them. It
-- follows the sections "A body's run" and "Rules of a design" of docs/LANGUAGE.md.
use Rattle.std.specs.Prelude.{◌≡◌, ℕ, ◌≤◌, true, false, List, length, [], ◌∷◌, Option, Some, None}
use Rattle.cocoon_num.specs.Lists.{is_one_of}
use Rattle.cocoon_num.specs.Names.{named}
use Rattle.cocoon_num.specs.Tree.{Name, Expr, name, call, Exprs, no_exprs, expr, Stmt, let_, set_field, if_, filter, havoc_var, havoc_field, assume, fork, send, Block, no_stmts, stmt, Param, FunctionDecl}
use Rattle.p4_ir.specs.P4Tree.{RowsFile}
use Rattle.lowering.specs.Agrees.{Filling}
use Rattle.lowering.specs.LowerBlock.{fork_function, in_expr}
use Rattle.lowering.specs.Serving.{GroupsServe, MembersFit}

-- ---- the forks of a body

-- what is said of a fork, by its variable, the variable's width, and its condition
abbrev pub OfFork : Type 1
OfFork = (x : List ℕ) → (width : ℕ) → Expr → Type 0

-- it holds of each fork
abbrev mutual
  pub StmtForks : OfFork → Stmt → Type 0
  StmtForks P (let_ at x w e) = Unit {0}
  StmtForks P (set_field at h f e) = Unit {0}
  StmtForks P (if_ at e a b) = AllForks P a × AllForks P b
  StmtForks P (filter at e) = Unit {0}
  StmtForks P (havoc_var at x w) = Unit {0}
  StmtForks P (havoc_field at h f) = Unit {0}
  StmtForks P (assume at e) = Unit {0}
  StmtForks P (fork at x w e b) = P x.text w e
  StmtForks P (send at r es) = Unit {0}

  pub AllForks : OfFork → Block → Type 0
  AllForks P no_stmts = Unit {0}
  AllForks P (stmt first rest) = StmtForks P first × AllForks P rest

-- ---- their form

abbrev pub IsName : List ℕ → Expr → Type 0
IsName x (name at y) = y ≡ x
IsName x _ = ⊥

-- the last is the name, which stands in no other
abbrev pub EndsIn : List ℕ → Exprs → Type 0
EndsIn x no_exprs = ⊥
EndsIn x (expr e no_exprs) = IsName x e
EndsIn x (expr e (expr y es)) = (in_expr x e ≡ false) × EndsIn x (expr y es)

-- the width of the last
abbrev pub last_width : List Param → Option ℕ
last_width [] = None
last_width (p ∷ []) = Some p.width
last_width (p ∷ q ∷ ps) = last_width (q ∷ ps)

-- The condition is a call of a run-time function. Its last argument is the fork's variable, which has the width of that
-- parameter; the other arguments do not name it.
pub record ForkIs (functions : List FunctionDecl) (x : List ℕ) (width : ℕ) (e : Expr) : Type 0 where
  pub at : ℕ
  pub function : Name
  pub args : Exprs
  pub is_call : e ≡ call at function args
  pub ends : EndsIn x args
  pub decl : FunctionDecl
  pub declared : named (λ (d : FunctionDecl). d.name) function.text functions ≡ Some decl
  pub runtime : decl.body ≡ None
  pub width_is : last_width decl.params ≡ Some width
  pub least : 1 ≤ width
  pub most : width ≤ 64

abbrev pub ForksAre : List FunctionDecl → Block → Type 0
ForksAre functions b = AllForks (ForkIs functions) b

-- ---- their functions

-- the function of each fork is among these
abbrev pub ForksName : List (List ℕ) → Block → Type 0
ForksName names b = AllForks (λ x width e. is_one_of names (fork_function e) ≡ true) b

-- ---- their groups

-- the groups of the function of a fork serve it
abbrev pub ForkServes : Filling → RowsFile → List FunctionDecl → OfFork
ForkServes fill rows functions x width e =
    (d : FunctionDecl) → named (λ (d : FunctionDecl). d.name) (fork_function e) functions ≡ Some d
    → GroupsServe fill rows (fork_function e) d.params × MembersFit fill rows (fork_function e) d.params

-- the groups of each run-time function of these names serve the program
abbrev pub GroupsAre : Filling → RowsFile → List FunctionDecl → List (List ℕ) → Type 0
GroupsAre fill rows functions names =
    (f : List ℕ) (d : FunctionDecl) → is_one_of names f ≡ true
    → named (λ (d : FunctionDecl). d.name) f functions ≡ Some d → d.body ≡ None → 1 ≤ length d.params
    → GroupsServe fill rows f d.params × MembersFit fill rows f d.params

abbrev pub ForksServe : Filling → RowsFile → List FunctionDecl → Block → Type 0
ForksServe fill rows functions b = AllForks (ForkServes fill rows functions) b
