use Rattle.std.proofs.Common.{◌≡◌, ◌+◌, ◌*◌}
use Rattle.p4_resolve.specs.Judged.{index}
use Rattle.p4_resolve.proofs.table_rules.after_keys.Given as goal

abbrev pub invariant-loop-key : goal.invariant-loop-key
invariant-loop-key l = l.next ≡ index (l.at + l._key-index * 6)
