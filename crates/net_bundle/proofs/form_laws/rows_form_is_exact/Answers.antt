use Rattle.net_bundle.proofs.RowsExact.{rows_is_exact}
use Rattle.net_bundle.proofs.form_laws.rows_form_is_exact.Goals as goal

pub returns : goal.returns
returns c = rows_is_exact
