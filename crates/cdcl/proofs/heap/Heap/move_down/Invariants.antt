use Rattle.std.proofs.Common.{◌≡◌, ◌-◌}
use Rattle.cdcl.proofs.heap.Heap.move_down.Given as goal

abbrev pub invariant-loop-next : goal.invariant-loop-next
invariant-loop-next l = l.self.count ≡ l.fn.self.count

abbrev pub decreases-loop-next : goal.decreases-loop-next
decreases-loop-next l = l.self.count - l.place
