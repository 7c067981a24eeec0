use Rattle.std.proofs.Common.{length, ◌+◌, ◌-◌, ◌*◌, map}
use Rattle.p4_texts.specs.TreeOf.{block_of, stmt_of}
use Rattle.p4_parse.specs.Tails.{SoFar}
use Rattle.p4_parse.proofs.stmts.+stmt.Given as goal

abbrev pub decreases-block : goal.decreases-block
decreases-block l = 8 * (length l.source.now - l.pos) + 4

abbrev pub decreases-stmt : goal.decreases-stmt
decreases-stmt l = 8 * (length l.source.now - l.pos) + 3

abbrev pub decreases-conditional : goal.decreases-conditional
decreases-conditional l = 8 * (length l.source.now - l.pos) + 7

abbrev pub decreases-guarded : goal.decreases-guarded
decreases-guarded l = 8 * (length l.source.now - l.pos) + 6

abbrev pub decreases-braced : goal.decreases-braced
decreases-braced l = 8 * (length l.source.now - l.pos) + 5

abbrev pub invariant-block-stmts : goal.invariant-block-stmts
invariant-block-stmts l = record { is : SoFar l.source l.pos (block_of (map stmt_of l.stmts.items)) l.next }

abbrev pub decreases-block-stmts : goal.decreases-block-stmts
decreases-block-stmts l = length l.source - l.next
