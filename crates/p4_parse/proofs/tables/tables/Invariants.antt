use Rattle.std.proofs.Common.{length, ◌-◌}
use Rattle.p4_parse.proofs.TablePhrases.{TablesSoFar}
use Rattle.p4_parse.proofs.tables.tables.Given as goal

abbrev pub invariant-tables : goal.invariant-tables
invariant-tables l = record { is : TablesSoFar l.source l.pos l.tables.items l.next }

abbrev pub decreases-tables : goal.decreases-tables
decreases-tables l = length l.source - l.next
