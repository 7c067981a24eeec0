use Rattle.std.proofs.Common.{ap, ◌∙◌}
use Rattle.serde_json.specs.Written.{compact_text, has_float}
use Rattle.p4_ir.specs.NetOf.{rows_of}
use Rattle.net_bundle.proofs.RowsValue.{rows_plain, rows_read}
use Rattle.net_bundle.proofs.rows_json.rows_text.Goals as goal

pub returns-clause-text : goal.returns-clause-text
returns-clause-text c = c.in_ok-to_vec.ensures.text (ap has_float c.in_ok-value.ensures ∙ rows_plain (rows_of c.args.rows.now)) ∙ ap compact_text c.in_ok-value.ensures

pub returns-clause-reads : goal.returns-clause-reads
returns-clause-reads c = (c.in_ok-to_vec.ensures.utf8, rows_read _ _ (rows_of c.args.rows.now) c.in_ok-value.ensures c.in_ok-to_vec.ensures.reads_back)
