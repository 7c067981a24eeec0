use Rattle.std.proofs.Common.{◌≡◌, ◌≤◌, length}
use Rattle.cnf_core.specs.TrailViews.{trues}
use Rattle.cdcl.specs.Resolving.{Analyzed}
use Rattle.cdcl.specs.States.{clauses_of}
use Rattle.cdcl.proofs.learning.analyze.Given as goal

abbrev pub invariant-loop-analysis : goal.invariant-loop-analysis
invariant-loop-analysis l = record {
  within : l.top ≤ length (trues l.search.trail);
  analyzed : Analyzed (clauses_of l.cnf l.search) (trues l.search.trail) l.top l.analysis;
  at_floor : l.analysis.floor ≡ l.fn.floor;
  enough : l.keep ≤ l.analysis.count;
}

abbrev pub decreases-loop-analysis : goal.decreases-loop-analysis
decreases-loop-analysis l = l.top
