use Rattle.std.proofs.Common.{◌≡◌, ◌<◌, ◌≤◌, ℕ, false}
use Rattle.cdcl.specs.Marks.{is_marked}
use Rattle.cdcl.proofs.analysis.Analysis.last_before.Given as goal

abbrev pub invariant-loop-end : goal.invariant-loop-end
invariant-loop-end l = record {
  within : l.end ≤ l.place;
  none : (p : ℕ) → l.end ≤ p → p < l.place → is_marked l.self.marks.items p ≡ false;
}

abbrev pub decreases-loop-end : goal.decreases-loop-end
decreases-loop-end l = l.end
