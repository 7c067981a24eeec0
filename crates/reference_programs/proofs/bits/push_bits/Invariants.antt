use Rattle.std.proofs.Common.{◌≡◌, ◌-◌, ◌++◌}
use Rattle.cocoon_num.specs.Packets.{cut}
use Rattle.reference_programs.specs.Widths.{ones}
use Rattle.reference_programs.proofs.bits.push_bits.Given as goal

-- the bits so far, and those that are left, are those of the number
abbrev pub invariant-loop-done : goal.invariant-loop-done
invariant-loop-done l = l.bits.items ++ cut (ones (l.width - l.done)) l.number ≡ l.fn.bits.items ++ cut (ones l.width) l.number
