use Rattle.std.proofs.Common.{◌≡◌, ◌<◌, ℕ, get_or}
use Rattle.cdcl.proofs.search.Search.backtrack_level.Given as goal

abbrev pub invariant-loop-start : goal.invariant-loop-start
invariant-loop-start l = record {
  at : l.level ≡ l.start-index;
  below : (i : ℕ) → i < l.start-index → get_or l.self.starts.items i 0 < l.second;
}
