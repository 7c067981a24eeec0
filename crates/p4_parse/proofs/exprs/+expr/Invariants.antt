use Rattle.std.proofs.Common.{length, ◌+◌, ◌-◌, ◌*◌}
use Rattle.p4_texts.specs.TreeOf.{expr_of}
use Rattle.p4_parse.specs.Phrases.{ReadExpr}
use Rattle.p4_parse.proofs.exprs.+expr.Given as goal

abbrev pub decreases-expr : goal.decreases-expr
decreases-expr l = 8 * (length l.source.now - l.pos) + 3

abbrev pub decreases-primary : goal.decreases-primary
decreases-primary l = 8 * (length l.source.now - l.pos) + 2

abbrev pub decreases-bracketed : goal.decreases-bracketed
decreases-bracketed l = 8 * (length l.source.now - l.pos) + 5

abbrev pub decreases-operand : goal.decreases-operand
decreases-operand l = 8 * (length l.source.now - l.pos) + 4

abbrev pub decreases-choice : goal.decreases-choice
decreases-choice l = 8 * (length l.source.now - l.pos) + 4

abbrev pub decreases-sides : goal.decreases-sides
decreases-sides l = 8 * (length l.source.now - l.pos)

abbrev pub invariant-expr-slices : goal.invariant-expr-slices
invariant-expr-slices l = record { is : ReadExpr l.source l.pos (expr_of l.expr) l.next }

abbrev pub decreases-expr-slices : goal.decreases-expr-slices
decreases-expr-slices l = length l.source - l.next
