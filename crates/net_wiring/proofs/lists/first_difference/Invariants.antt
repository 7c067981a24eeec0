use Rattle.std.proofs.Common.{◌≡◌, ◌≤◌, map, take, length}
use Rattle.net_wiring.proofs.lists.first_difference.Given as goal

abbrev pub invariant-loop-index : goal.invariant-loop-index
invariant-loop-index g l = record {
  within : l.index ≤ length l.new;
  same : take l.index (map g.T.Compared.meaning l.old) ≡ take l.index (map g.T.Compared.meaning l.new);
}
