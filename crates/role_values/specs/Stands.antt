-- Cited by the law of tables: the definitions that some tables stand for.
use Rattle.std.specs.Prelude.{◌≡◌, List, Option, Some, length}
use Rattle.cocoon_num.specs.Packets.{Packet}
use Rattle.cocoon_num.specs.Tree.{Expr, Design}
use Rattle.cocoon_num.specs.Values.{Value}
use Rattle.cocoon_num.specs.declared.fun_table.FunTable.{FunTable}
use Rattle.cocoon_types.specs.Design.{functions}
use Rattle.cocoon_types.specs.Tables.{Defs}
use Rattle.cocoon_types.specs.Val.{Env, context, value}
pub use Rattle.runtime_defs.specs.Stands.{IsTableOf, Stands}
use Rattle.role_values.specs.ByTables.{context_by}

-- A value by tables is the value under the definitions that they stand for.
abbrev pub TablesGiveValues : Type 0
TablesGiveValues = (design : Design) (tables : List (Option FunTable)) (defs : Defs) → Stands design tables defs
    → (env : Env) (packet : Packet) (e : Expr) (v : Value)
    → value (context_by design.headers tables design (length (functions design))) env packet e ≡ Some v
    → value (context design defs) env packet e ≡ Some v
