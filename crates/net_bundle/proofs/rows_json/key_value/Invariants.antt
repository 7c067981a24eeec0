use Rattle.std.proofs.Common.{◌≡◌, ◌++◌, map, drop}
use Rattle.serde_json.specs.View.{view}
use Rattle.net_bundle.proofs.RowsValue.{pairs}
use Rattle.net_bundle.proofs.rows_json.key_value.Given as goal

abbrev pub invariant-loop-index : goal.invariant-loop-index
invariant-loop-index l = map view l.pairs.items ++ pairs (drop l.index l.values) (drop l.index l.masks) ≡ pairs l.values l.masks
