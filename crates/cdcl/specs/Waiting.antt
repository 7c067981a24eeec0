-- Cited by private clauses: how many variables wait to be decided.
use Rattle.std.specs.Prelude.{ℕ, ◌+◌, ◌-◌}
use Rattle.cdcl.specs.declared.order.Order.{Order}

abbrev pub waiting : Order → ℕ
waiting order = order.heap.count + (order.drawn.count - order.drawn.next)
