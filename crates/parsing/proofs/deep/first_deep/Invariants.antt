use Rattle.std.proofs.Common.{ℕ, List, map, take, ◌≤◌}
use Rattle.parsing.proofs.Depths.{Shallow}
use Rattle.parsing.proofs.deep.first_deep.Given as goal

abbrev pub invariant-loop-at : goal.invariant-loop-at
invariant-loop-at g l = record {
  few_brackets : l.brackets ≤ g.D.Depth.bounds.open_most;
  few_operators : l.operators ≤ g.D.Depth.bounds.operators_most;
  shallow : (text : List ℕ) → Shallow g.D.Depth.bounds (take l.at (map (g.D.Depth.kind_at text) l.tokens)) l.brackets l.operators;
}
