use Rattle.std.proofs.Common.{length, ℕ, ◌+◌, ◌-◌, ◌*◌, ◌≤◌, ◌<◌, map}
use Rattle.cocoon_num.specs.Reads.{of_expr, of_post}
use Rattle.cocoon_syntax.specs.TreeOf.{expr_of}
use Rattle.cocoon_text.specs.ExprPhrases.{level_of}
use Rattle.parsing.specs.PlainParser.{expr_from, rest_from, commas_from}
use Rattle.cocoon_text.specs.declared.operators.Chain.{Chain}
use Rattle.cocoon_text.specs.declared.operators.Chain.TheVariants.{Or, And, Concat, Bits, Sum}
use Rattle.cocoon_text.proofs.Eventually.{SoFar, tail_from}
use Rattle.cocoon_text.proofs.Chains.{Rest}
use Rattle.cocoon_text.proofs.exprs.+expr.Given as goal

-- how loose a level is
abbrev rank : Chain → ℕ
rank Or = 14
rank And = 12
rank Concat = 9
rank Bits = 7
rank Sum = 5

abbrev pub decreases-exprs : goal.decreases-exprs
decreases-exprs l = 32 * (length l.source.now - l.pos) + 16

abbrev pub decreases-expr_then : goal.decreases-expr_then
decreases-expr_then l = 32 * (length l.source.now - l.pos) + 16

abbrev pub decreases-sides : goal.decreases-sides
decreases-sides l = 32 * (length l.source.now - l.pos) + 17

abbrev pub decreases-expr : goal.decreases-expr
decreases-expr l = 32 * (length l.source.now - l.pos) + 15

abbrev pub decreases-chain : goal.decreases-chain
decreases-chain l = 32 * (length l.source.now - l.pos) + rank l.level

abbrev pub decreases-part : goal.decreases-part
decreases-part l = 32 * (length l.source.now - l.pos) + (rank l.level - 1)

abbrev pub decreases-comparison : goal.decreases-comparison
decreases-comparison l = 32 * (length l.source.now - l.pos) + 10

abbrev pub decreases-unary : goal.decreases-unary
decreases-unary l = 32 * (length l.source.now - l.pos) + 3

abbrev pub decreases-sliced : goal.decreases-sliced
decreases-sliced l = 32 * (length l.source.now - l.pos) + 2

abbrev pub decreases-primary : goal.decreases-primary
decreases-primary l = 32 * (length l.source.now - l.pos) + 1

abbrev pub decreases-bracketed : goal.decreases-bracketed
decreases-bracketed l = 32 * (length l.source.now - l.pos)

abbrev pub decreases-picked : goal.decreases-picked
decreases-picked l = 32 * (length l.source.now - l.pos)

abbrev pub decreases-variable_or_call : goal.decreases-variable_or_call
decreases-variable_or_call l = 32 * (length l.source.now - l.pos)

abbrev pub invariant-chain-chain : goal.invariant-chain-chain
invariant-chain-chain l = record {
  forward : l.pos < l.next;
  within : l.next ≤ length l.source;
  rest : Rest (λ n. expr_from l.source n (level_of l.level) l.pos) (λ n. rest_from l.source n (level_of l.level) (expr_of l.left) l.next);
}

abbrev pub decreases-chain-chain : goal.decreases-chain-chain
decreases-chain-chain l = length l.source - l.next

abbrev pub invariant-sliced-slices : goal.invariant-sliced-slices
invariant-sliced-slices l = record {
  forward : l.pos < l.next;
  within : l.next ≤ length l.source;
  rest : Rest (λ n. expr_from l.source n of_post l.pos) (λ n. rest_from l.source n of_post (expr_of l.number) l.next);
}

abbrev pub decreases-sliced-slices : goal.decreases-sliced-slices
decreases-sliced-slices l = length l.source - l.next

abbrev pub invariant-exprs-exprs : goal.invariant-exprs-exprs
invariant-exprs-exprs l = record {
  forward : l.pos < l.next;
  within : l.next ≤ length l.source;
  so_far : SoFar (λ n. commas_from l.source (λ m. expr_from l.source m of_expr) n l.pos) (λ n. tail_from l.source (λ m. expr_from l.source m of_expr) n l.next) (map expr_of l.exprs.items);
}

abbrev pub decreases-exprs-exprs : goal.decreases-exprs-exprs
decreases-exprs-exprs l = length l.source - l.next
