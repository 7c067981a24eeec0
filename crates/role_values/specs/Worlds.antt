-- Cited by the clauses of runs of bodies: what a body's run at a level is in, where the functions that are defined at run
-- time have tables.
use Rattle.std.specs.Prelude.{ℕ, List, length, Option}
use Rattle.cocoon_num.specs.Tree.{Design}
use Rattle.cocoon_num.specs.declared.fun_table.FunTable.{FunTable}
use Rattle.cocoon_types.specs.Design.{functions, role_at}
use Rattle.cocoon_types.specs.Runs.{World}
use Rattle.role_values.specs.ByTables.{context_by}

-- the world of a level, by tables
abbrev pub world_by : List (Option FunTable) → ℕ → Design → World
world_by tables i design = record { context = context_by design.headers tables design (length (functions design)); role = role_at i design }
