use Rattle.std.proofs.Common.{rules}
use Rattle.lower_rows.proofs.Saying.{said-noted}
use Rattle.lower_rows.proofs.first_rows.FirstRows.note.Goals as goal

pub returns : goal.returns
returns c = λ x.
    said-noted c.args.self.now c.insert.new.self c.in_ok-values.values c.args.row.now c.is_true.result c.in_ok-insert.ensures.updates (search rules) c.is_true.ensures x
