use Rattle.std.proofs.Common.{◌≡◌, ◌+◌, ◌-◌, ℕ, Bool, Some, length, slice_get}
use Rattle.cocoon_resolve.proofs.bodies.put.Given as goal

abbrev pub invariant-loop-row : goal.invariant-loop-row
invariant-loop-row l = (i : ℕ) (b : Bool) → slice_get l.fn.row.items i ≡ Some b → slice_get l.row.items i ≡ Some b

abbrev pub decreases-loop-row : goal.decreases-loop-row
decreases-loop-row l = l.index + 1 - length l.row.items
