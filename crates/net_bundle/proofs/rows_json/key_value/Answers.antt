use Rattle.std.proofs.Common.{ap, subst, ◌∙◌, ◌≤◌}
use Rattle.serde_json.specs.Data.{array}
use Rattle.serde_json.proofs.Views.{view-Array}
use Rattle.net_bundle.proofs.RowsValue.{pairs_done}
use Rattle.net_bundle.proofs.rows_json.key_value.Goals as goal

pub returns : goal.returns
returns c = view-Array c.loop-index.pairs ∙ ap array (pairs_done _ c.args.values.now c.args.masks.now c.loop-index.index (subst (λ n. n ≤ c.loop-index.index) c.min-index-end.ensures c.loop-index-test.false) c.loop-index.invariant)
