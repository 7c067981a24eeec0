use Rattle.std.proofs.Common.{◌≡◌, length, option_map}
use Rattle.serde_json.specs.Data.{Members}
use Rattle.json_scan.specs.Pairs.{Holds}
use Rattle.json_scan.specs.Scanning.{read_members}
use Rattle.json_scan.proofs.Parts.{members_from}
use Rattle.json_scan.proofs.pair.two_members.Given as goal

abbrev pub invariant-members : goal.invariant-members
invariant-members g l =
    (ms : Members)
    × (read_members l.depth l.initial.reader ≡ members_from l.depth ms l.reader)
    × Holds g.A.ScanJson.form g.B.ScanJson.form l.first_key l.second_key ms l.pair.has_others
    (option_map (option_map g.A.ScanJson.meaning) l.pair.first) (option_map (option_map g.B.ScanJson.meaning) l.pair.second)

abbrev pub decreases-members : goal.decreases-members
decreases-members g l = length l.reader
