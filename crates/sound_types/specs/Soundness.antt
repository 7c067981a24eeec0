-- The laws of this crate, as its clauses cite them: by tables and under the definitions of a text well-typed expressions
-- have values of their types (progress), and runs keep types (preservation).
use Rattle.std.specs.Prelude.{◌≡◌, ℕ, true, List, [], Option, Some, slice_get}
use Rattle.cocoon_num.specs.PacketForms.{FieldsFit, PacketFits}
use Rattle.cocoon_num.specs.Packets.{Packet}
use Rattle.cocoon_num.specs.Sorts.{Sort, truth_sort}
use Rattle.cocoon_num.specs.Tree.{Block, Expr, Exprs, FunctionDecl, HeaderDecl, Param, Design}
use Rattle.cocoon_num.specs.declared.fun_table.FunTable.{FunTable}
use Rattle.cocoon_types.specs.Design.{functions, layout, widths_of}
use Rattle.cocoon_types.specs.Runs.{Loc, World}
use Rattle.cocoon_types.specs.Taken.{go, guard_at, run_all}
use Rattle.cocoon_types.specs.Typing.{Scope, result_sort}
use Rattle.cocoon_types.specs.Val.{Context, Env, numbers, value}
use Rattle.role_values.specs.ByTables.{context_by}
use Rattle.sound_types.specs.Ends.{LocFits, ReachFits, RunFits, after_block}
use Rattle.sound_types.specs.Matching.{Binds, HasValue, Matches}
use Rattle.sound_types.specs.WellTyped.{HasType, HasTypeBefore, HaveWidths, IsTyped, scope_at, scope_in}

-- there are numbers, and they fit these widths
abbrev pub HaveNumbers : List ℕ → Option (List ℕ) → Type 0
HaveNumbers ws r = (ns : List ℕ) × (r ≡ Some ns) × FieldsFit ws ns

-- In a design, in a context for its expressions: where variables and packet match the scope, a well-typed expression has a
-- value of its type, and expressions that are numbers of some widths have such numbers. At numbers that fit its
-- parameters, a function has a value of its result's type.
pub record IsSound (d : Design) (c : Context) : Type 0 where
  pub values : (s : Scope) (env : Env) (packet : Packet) → s.design ≡ d → Matches s env packet
      → (t : Sort) (e : Expr) → HasType s t e → HasValue t (value c env packet e)
  pub numbers : (s : Scope) (env : Env) (packet : Packet) → s.design ≡ d → Matches s env packet
      → (ws : List ℕ) (es : Exprs) → HaveWidths s ws es → HaveNumbers ws (numbers c env packet es)
  pub functions : (n : ℕ) (f : FunctionDecl) → slice_get (functions d) n ≡ Some f
      → (ns : List ℕ) → FieldsFit (widths_of f.params) ns → HasValue (result_sort f.result) (c.apply f.name.text ns)

-- In a world of a level: the guard of a location that fits is true or false. The run of a well-typed block ends with what
-- matches the scope after it, or with what fits the level, and so does a body's run from a location that fits.
pub record KeepsTypes (level : ℕ) (d : Design) (w : World) : Type 0 where
  pub guards : (at : Loc) → LocFits level d at → HasValue truth_sort (guard_at w at)
  pub blocks : (vars : List Param) (block : Block) → IsTyped (scope_at d level vars true) block
      → (env : Env) (packet : Packet) (choices : List ℕ) → Matches (scope_at d level vars true) env packet
      → RunFits (after_block block (scope_at d level vars true)) (run_all w block env packet choices)
  pub bodies : (at : Loc) (packet : Packet) (choices : List ℕ) → LocFits level d at → PacketFits (layout d) packet
      → ReachFits level d (go w at packet choices)

-- The body of each function of a design has the type of its result where the function's parameters and the functions
-- before it are in scope. What has a type there has a value of that type by the tables of the functions before. Bodies see
-- no packet, so no headers either.
pub record BodiesAreSound (d : Design) (tables : List (Option FunTable)) : Type 0 where
  pub typed : (n : ℕ) (f : FunctionDecl) (e : Expr) → slice_get (functions d) n ≡ Some f → f.body ≡ Some e
      → HasTypeBefore (scope_in d n f.params) (result_sort f.result) e
  pub values : (n : ℕ) (headers : List HeaderDecl) (vars : List Param) (env : Env) → Binds vars env
      → (t : Sort) (e : Expr) → HasTypeBefore (scope_in d n vars) t e → HasValue t (value (context_by headers tables d n) env [] e)
