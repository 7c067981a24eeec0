-- Groups that serve the functions of forks serve the forks.
use Rattle.std.specs.Prelude.{◌≡◌, ℕ, ◌≤◌, true, List, [], ◌∷◌, length, Option, Some, None}
use Rattle.std.proofs.Common.{sym, ◌∙◌, ap, subst, arith}
use Rattle.cocoon_num.specs.Lists.{is_one_of}
use Rattle.cocoon_num.specs.Tree.{Expr, Stmt, let_, set_field, if_, filter, havoc_var, havoc_field, assume, fork, send, Block, no_stmts, stmt, Param, FunctionDecl}
use Rattle.p4_ir.specs.P4Tree.{RowsFile}
use Rattle.lowering.specs.Agrees.{Filling}
use Rattle.lowering.specs.LowerBlock.{fork_function}
use Rattle.lowering.specs.Forks.{AllForks, ForkIs, ForkServes, ForksAre, ForksName, ForksServe, GroupsAre, OfFork, StmtForks, last_width}
use Rattle.lowering.proofs.VisitCopies.{declared_is}

-- ---- what holds of each fork

mutual
  stmt_from : (P Q R : OfFork) → ((x : List ℕ) (w : ℕ) (e : Expr) → P x w e → Q x w e → R x w e) → (s : Stmt) → StmtForks P s → StmtForks Q s → StmtForks R s
  stmt_from P Q R f (let_ at x w e) p q = tt
  stmt_from P Q R f (set_field at h g e) p q = tt
  stmt_from P Q R f (if_ at e a b) p q = (forks_from P Q R f a p.0 q.0, forks_from P Q R f b p.1 q.1)
  stmt_from P Q R f (filter at e) p q = tt
  stmt_from P Q R f (havoc_var at x w) p q = tt
  stmt_from P Q R f (havoc_field at h g) p q = tt
  stmt_from P Q R f (assume at e) p q = tt
  stmt_from P Q R f (fork at x w e b) p q = f x.text w e p q
  stmt_from P Q R f (send at r es) p q = tt

  forks_from : (P Q R : OfFork) → ((x : List ℕ) (w : ℕ) (e : Expr) → P x w e → Q x w e → R x w e) → (b : Block) → AllForks P b → AllForks Q b → AllForks R b
  forks_from P Q R f no_stmts p q = tt
  forks_from P Q R f (stmt s rest) p q = (stmt_from P Q R f s p.0 q.0, forks_from P Q R f rest p.1 q.1)

-- ---- one fork

has_last : (ps : List Param) (w : ℕ) → last_width ps ≡ Some w → 1 ≤ length ps
has_last [] w h = absurd cc
has_last (p ∷ ps) w h = omega arith

abbrev decl_of : FunctionDecl → Option FunctionDecl → FunctionDecl
decl_of d None = d
decl_of d (Some x) = x

one_served : (fill : Filling) (rows : RowsFile) (functions : List FunctionDecl) (names : List (List ℕ)) → GroupsAre fill rows functions names
    → (x : List ℕ) (w : ℕ) (e : Expr) → ForkIs functions x w e → is_one_of names (fork_function e) ≡ true → ForkServes fill rows functions x w e
one_served fill rows functions names groups x w e k h d is =
    let same : k.decl ≡ d = ap (decl_of d) (sym (declared_is functions x w e k) ∙ is) in
    groups (fork_function e) d h is (subst (λ (z : FunctionDecl). z.body ≡ None) same k.runtime) (has_last d.params w (subst (λ (z : FunctionDecl). last_width z.params ≡ Some w) same k.width_is))

pub all_served : (fill : Filling) (rows : RowsFile) (functions : List FunctionDecl) (names : List (List ℕ)) → GroupsAre fill rows functions names
    → (b : Block) → ForksAre functions b → ForksName names b → ForksServe fill rows functions b
all_served fill rows functions names groups b forks named_so =
    forks_from (ForkIs functions) (λ x w e. is_one_of names (fork_function e) ≡ true) (ForkServes fill rows functions) (one_served fill rows functions names groups) b forks named_so
