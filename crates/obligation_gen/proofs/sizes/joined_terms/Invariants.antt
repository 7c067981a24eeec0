use Rattle.std.proofs.Common.{◌≡◌, ◌+◌, ◌<◌, ◌^◌, drop}
use Rattle.cocoon_types.specs.Limits.{reported}
use Rattle.obligation_gen.specs.Joined.{joined, joined_of}
use Rattle.obligation_gen.proofs.sizes.joined_terms.Given as goal

abbrev pub invariant-loop-leaf : goal.invariant-loop-leaf
invariant-loop-leaf l = record {
  rest : reported (l.joined + joined_of l.old.leaves (drop l.leaf-index l.tree.leaves)) ≡ reported (joined l.old l.tree);
  fits : l.joined < 2 ^ 64;
}
