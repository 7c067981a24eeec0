use Rattle.std.proofs.Common.{◌≡◌, drop}
use Rattle.cocoon_num.specs.Rows.{first_match}
use Rattle.cocoon_num.specs.FunTables.{row_matches}
use Rattle.cocoon_num.specs.declared.fun_table.FunRow.{FunRow}
use Rattle.cocoon_num.proofs.fun_table.FunTable.look.Given as goal

abbrev pub invariant-loop-row : goal.invariant-loop-row
invariant-loop-row l = first_match (row_matches l.args) (λ (row : FunRow). row.result) (drop l.row-index l.self.rows) l.self.default ≡ first_match (row_matches l.args) (λ (row : FunRow). row.result) l.self.rows l.self.default
