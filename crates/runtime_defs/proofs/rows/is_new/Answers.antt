use Rattle.std.proofs.Common.{ap, is_none, ◌∙◌}
use Rattle.runtime_defs.specs.RowKeys.{row_keys}
use Rattle.runtime_defs.proofs.Keys.{place-test, turned}
use Rattle.runtime_defs.proofs.rows.is_new.Goals as goal

pub returns : goal.returns
returns c = λ rows h. turned c.place.result c.is_none.result c.is_none.ensures ∙ ap is_none (c.place.ensures (row_keys rows) h) ∙ place-test rows c.args.values.now
