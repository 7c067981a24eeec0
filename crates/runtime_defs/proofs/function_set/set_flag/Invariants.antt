use Rattle.std.proofs.Common.{◌≡◌, ◌+◌, ◌-◌, ℕ, length}
use Rattle.runtime_defs.specs.Sets.{has_flag}
use Rattle.runtime_defs.proofs.function_set.set_flag.Given as goal

abbrev pub invariant-loop-flags : goal.invariant-loop-flags
invariant-loop-flags l = (i : ℕ) → has_flag l.flags.items i ≡ has_flag l.fn.flags.items i

abbrev pub decreases-loop-flags : goal.decreases-loop-flags
decreases-loop-flags l = l.index + 1 - length l.flags.items
