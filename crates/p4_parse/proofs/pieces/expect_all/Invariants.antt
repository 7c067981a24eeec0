use Rattle.std.proofs.Common.{length, ◌-◌}
use Rattle.p4_parse.proofs.PiecePhrases.{Taken}
use Rattle.p4_parse.proofs.pieces.expect_all.Given as goal

abbrev pub invariant-tokens : goal.invariant-tokens
invariant-tokens l = record { is : Taken l.source l.piece l.pos l.next l.index }

abbrev pub decreases-tokens : goal.decreases-tokens
decreases-tokens l = length l.piece - l.index
