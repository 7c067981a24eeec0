use Rattle.std.proofs.Common.{◌≡◌, ◌+◌, ◌<◌, ◌^◌, drop}
use Rattle.cocoon_types.specs.Limits.{reported}
use Rattle.obligation_gen.specs.Joined.{count_to}
use Rattle.obligation_gen.proofs.sizes.count_to.Given as goal

abbrev pub invariant-loop-leaf : goal.invariant-loop-leaf
invariant-loop-leaf l = record {
  rest : reported (l.count + count_to l.to (drop l.leaf-index l.leaves)) ≡ reported (count_to l.to l.leaves);
  fits : l.count < 2 ^ 64;
}
