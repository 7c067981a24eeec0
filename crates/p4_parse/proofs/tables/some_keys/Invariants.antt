use Rattle.std.proofs.Common.{length, ◌-◌}
use Rattle.p4_parse.proofs.TablePhrases.{KeysSoFar}
use Rattle.p4_parse.proofs.tables.some_keys.Given as goal

abbrev pub invariant-keys : goal.invariant-keys
invariant-keys l = record { is : KeysSoFar l.exact l.source l.pos l.keys.items l.next }

abbrev pub decreases-keys : goal.decreases-keys
decreases-keys l = length l.source - l.next
