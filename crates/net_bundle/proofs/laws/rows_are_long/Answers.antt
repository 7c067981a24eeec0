use Rattle.net_bundle.proofs.RowsLong.{file_long}
use Rattle.net_bundle.proofs.laws.rows_are_long.Goals as goal

pub returns : goal.returns
returns c = file_long
