use Rattle.bv_terms.proofs.Values.{rows-keep}
use Rattle.bv_terms.proofs.Widths.{width-rows}
use Rattle.bv_terms.proofs.table_laws.rows_keep_values.Goals as goal

pub returns-clause-values : goal.returns-clause-values
returns-clause-values c = rows-keep

pub returns-clause-widths : goal.returns-clause-widths
returns-clause-widths c = width-rows
