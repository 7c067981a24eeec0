use Rattle.std.proofs.Common.{◌≡◌, replicate, take}
use Rattle.p4_run.proofs.filling.set_zero.Given as goal

abbrev pub invariant-loop-number : goal.invariant-loop-number
invariant-loop-number l = take l.number-index l.numbers ≡ replicate l.number-index 0
