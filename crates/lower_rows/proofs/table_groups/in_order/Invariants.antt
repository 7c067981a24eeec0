use Rattle.std.proofs.Common.{◌≡◌, ◌++◌, length}
use Rattle.lower_rows.proofs.table_groups.in_order.Given as goal

abbrev pub invariant-loop-number : goal.invariant-loop-number
invariant-loop-number l = l.listed.items ++ l.numbers.keys ≡ l.fn.numbers.keys

abbrev pub decreases-loop-number : goal.decreases-loop-number
decreases-loop-number l = length l.numbers.keys
