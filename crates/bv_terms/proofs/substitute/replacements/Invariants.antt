use Rattle.std.proofs.Common.{◌≤◌, drop, length}
use Rattle.bv_terms.specs.Rebuilt.{IsTable}
use Rattle.bv_terms.proofs.substitute.replacements.Given as goal

abbrev pub invariant-loop-at : goal.invariant-loop-at
invariant-loop-at l = record {
  within : l.at ≤ length l.from;
  held : IsTable (drop l.at l.from) (drop l.at l.to) l.table;
}

abbrev pub decreases-loop-at : goal.decreases-loop-at
decreases-loop-at l = l.at
