use Rattle.std.proofs.Common.{◌≡◌, map, length}
use Rattle.json.specs.Json.{parse_map}
use Rattle.serde_json.specs.Data.{Items}
use Rattle.json_forms.specs.Forms.{all_form}
use Rattle.json_scan.specs.Scanning.{read_items}
use Rattle.json_scan.proofs.Lists.{joined}
use Rattle.json_scan.proofs.list.list_items.Given as goal

abbrev pub invariant-items : goal.invariant-items
invariant-items g l =
    (before : Items → Items)
    × (read_items l.depth l.initial.reader ≡ parse_map before (read_items l.depth l.reader))
    × ((rest : Items) → all_form g.T.ScanJson.form (before rest) ≡ joined l.found.are_of_the_form (map g.T.ScanJson.meaning l.found.items.items) (all_form g.T.ScanJson.form rest))

abbrev pub decreases-items : goal.decreases-items
decreases-items g l = length l.reader
