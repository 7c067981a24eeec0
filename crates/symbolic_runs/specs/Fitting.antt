-- Cited by the clauses of all that follows bodies: when statements can be followed from a state.
use Rattle.std.specs.Prelude.{◌≡◌, ℕ, true, List, [], All, Option, Some, None}
use Rattle.std.specs.List.{AllZip}
use Rattle.cocoon_num.specs.Sorts.{Sort}
use Rattle.cocoon_num.specs.Tree.{Block, Design, Expr, Exprs, Param, Role, Stmt, fork, if_}
use Rattle.cocoon_resolve.specs.Readers.{all_widths}
use Rattle.cocoon_syntax.specs.TreeOf.{design_of}
use Rattle.cocoon_types.specs.Design.{role_at, widths_of}
use Rattle.bv_terms.specs.declared.node.Node.{Node}
use Rattle.sound_types.specs.WellTyped.{HasType, HaveWidths, IsTyped, IsTypedRole, IsTypedStmt, scope_at}
use Rattle.obligation_laws.specs.Shown.{AreVariables, HasWidth, TermsHaveWidths}
use Rattle.obligation_laws.specs.TermOf.{TermEnv}
use Rattle.expr_terms.specs.Sizes.{AreSizes}
use Rattle.expr_terms.specs.Variables.{AreThere, terms_at}
use Rattle.obligation_laws.specs.States as tree
use Rattle.symbolic_runs.specs.declared.states.State.{State}
use Rattle.symbolic_runs.specs.declared.world.World.{World}
use Rattle.symbolic_runs.specs.Reading.{IsThere, state_of}

-- ---- widths

-- the role is declared at the level, and the values have the widths of its parameters
pub record FitsPlace (level : ℕ) (d : Design) (at : tree.Place) : Type 0 where
  pub role : Role
  pub declared : role_at level d at.role ≡ Some role
  pub values : AllZip HasWidth (widths_of role.params) at.values

-- before a way has sent its variables are these; afterwards the place fits
abbrev pub FitsBy : (level : ℕ) → Design → List Param → TermEnv → Option tree.Place → Type 0
FitsBy level d vars env None = AreVariables vars env
FitsBy level d vars env (Some at) = FitsPlace level d at

-- the terms of a state have the widths of what they stand for
pub record FitsState (level : ℕ) (d : Design) (vars : List Param) (s : tree.State) : Type 0 where
  pub fields : AllZip HasWidth (all_widths d.headers) s.fields
  pub condition : HasWidth 1 s.cond
  pub place : FitsBy level d vars s.vars s.sent

-- the arena has the terms of a state, and they have the widths of what they stand for
pub record Stands (w : World) (nodes : List Node) (vars : List Param) (s : State) : Type 0 where
  pub there : IsThere nodes s
  pub fits : FitsState w.level (design_of w.checked.now) vars (state_of nodes s)

-- ---- when statements can be followed

-- what following asks of a level: of a design that keeps the rules all but the sizes hold
pub record IsReady (w : World) : Type 0 where
  pub sizes : AreSizes (design_of w.checked.now) w.sizes.now
  pub wide : TermsHaveWidths (design_of w.checked.now)
  pub roles : (name : List ℕ) (r : Role) → role_at w.level (design_of w.checked.now) name ≡ Some r
      → IsTypedRole (design_of w.checked.now) w.level r

-- the block is well typed where these are the variables of the states
pub record CanFollow (w : World) (nodes : List Node) (states : List State) (b : Block) : Type 0 where
  pub vars : List Param
  pub typed : IsTyped (scope_at (design_of w.checked.now) w.level vars true) b
  pub stand : All (Stands w nodes vars) states

-- the statement is well typed where these are the variables of a state that has not sent
pub record CanDo (w : World) (nodes : List Node) (s : State) (x : Stmt) : Type 0 where
  pub vars : List Param
  pub unsent : s.sent ≡ None
  pub typed : IsTypedStmt (scope_at (design_of w.checked.now) w.level vars true) x
  pub stands : Stands w nodes vars s

-- the statement has no block
abbrev pub HasNoBlock : Stmt → Type 0
HasNoBlock (if_ at e first second) = ⊥
HasNoBlock (fork at x width e body) = ⊥
HasNoBlock _ = Unit {0}

-- the arena has these values of a place, which fits
pub record CanEnter (w : World) (nodes : List Node) (role : List ℕ) (values : List ℕ) : Type 0 where
  pub there : AreThere nodes values
  pub fits : FitsPlace w.level (design_of w.checked.now) (record { role = role; values = terms_at nodes values })

-- ---- when terms of expressions can be made

-- the expression is of the type where these are the variables of a state that has not sent
pub record IsOfType (w : World) (nodes : List Node) (s : State) (sort : Sort) (e : Expr) : Type 0 where
  pub vars : List Param
  pub unsent : s.sent ≡ None
  pub typed : HasType (scope_at (design_of w.checked.now) w.level vars true) sort e
  pub stands : Stands w nodes vars s

-- it has a type
abbrev pub HasTerm : World → List Node → State → Expr → Type 0
HasTerm w nodes s e = (sort : Sort) × IsOfType w nodes s sort e

-- the expressions are numbers, likewise
pub record HaveTerms (w : World) (nodes : List Node) (s : State) (es : Exprs) : Type 0 where
  pub vars : List Param
  pub unsent : s.sent ≡ None
  pub widths : List ℕ
  pub typed : HaveWidths (scope_at (design_of w.checked.now) w.level vars true) widths es
  pub stands : Stands w nodes vars s
