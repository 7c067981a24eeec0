use Rattle.std.proofs.Common.{◌≡◌, ◌+◌, ◌<◌, ℕ, false, get_or, length, pos}
use Rattle.cnf_core.specs.Literals.{has_literal}
use Rattle.cnf_core.specs.TrailViews.{trues}
use Rattle.cdcl.proofs.search.Search.assignment.Given as goal

abbrev pub invariant-loop-index : goal.invariant-loop-index
invariant-loop-index l = record {
  sized : length l.values.items ≡ l.index;
  agree : (v : ℕ) → v < l.index → get_or l.values.items v false ≡ has_literal (trues l.self.trail) (pos (v + 1));
}
