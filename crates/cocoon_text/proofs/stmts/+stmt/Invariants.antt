use Rattle.std.proofs.Common.{length, ◌+◌, ◌-◌, ◌*◌, ◌≤◌, map}
use Rattle.cocoon_syntax.specs.TreeOf.{stmt_of}
use Rattle.parsing.specs.PlainParser.{many_from, stmt_from, closes}
use Rattle.cocoon_text.proofs.Eventually.{SoFar}
use Rattle.cocoon_text.proofs.stmts.+stmt.Given as goal

abbrev pub decreases-stmts : goal.decreases-stmts
decreases-stmts l = 4 * (length l.source.now - l.pos) + 3

abbrev pub decreases-stmt : goal.decreases-stmt
decreases-stmt l = 4 * (length l.source.now - l.pos) + 2

abbrev pub decreases-conditional : goal.decreases-conditional
decreases-conditional l = 4 * (length l.source.now - l.pos) + 1

abbrev pub decreases-guarded : goal.decreases-guarded
decreases-guarded l = 4 * (length l.source.now - l.pos) + 1

abbrev pub decreases-otherwise : goal.decreases-otherwise
decreases-otherwise l = 4 * (length l.source.now - l.pos) + 1

abbrev pub decreases-fork : goal.decreases-fork
decreases-fork l = 4 * (length l.source.now - l.pos) + 1

abbrev pub decreases-block : goal.decreases-block
decreases-block l = 4 * (length l.source.now - l.pos)

abbrev pub invariant-stmts-stmts : goal.invariant-stmts-stmts
invariant-stmts-stmts l = record {
  forward : l.pos ≤ l.next;
  within : l.next ≤ length l.source;
  so_far : SoFar (λ n. many_from (stmt_from l.source) (closes l.source) n l.pos) (λ n. many_from (stmt_from l.source) (closes l.source) n l.next) (map stmt_of l.stmts.items);
}

abbrev pub decreases-stmts-stmts : goal.decreases-stmts-stmts
decreases-stmts-stmts l = length l.source - l.next
