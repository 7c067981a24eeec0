use Rattle.std.proofs.Common.{◌≡◌, ◌+◌, ◌<◌, ◌≤◌, ◌||◌, true, pos, ℕ}
use Rattle.cnf_core.specs.Deriving.{is_false}
use Rattle.cnf_core.specs.Literals.{has_literal}
use Rattle.cnf_core.specs.TrailViews.{room, trues}
use Rattle.cdcl.proofs.search.Search.last_unassigned.Given as goal

abbrev pub invariant-loop-index : goal.invariant-loop-index
invariant-loop-index l = (v : ℕ) → l.index ≤ v → v < room l.self.trail
    → (has_literal (trues l.self.trail) (pos (v + 1)) || is_false (trues l.self.trail) (pos (v + 1))) ≡ true
