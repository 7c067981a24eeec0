use Rattle.std.proofs.Common.{◌≤◌, take}
use Rattle.cnf_core.specs.Trails.{numbers}
use Rattle.cnf_core.specs.TrailViews.{trues}
use Rattle.cdcl.specs.Analyses.{IsSameBut}
use Rattle.cdcl.specs.Marks.{MarksToo}
use Rattle.cdcl.proofs.analysis.Analysis.mark_clause.Given as goal

abbrev pub invariant-loop-lit : goal.invariant-loop-lit
invariant-loop-lit l = record {
  marks : MarksToo (numbers (take l.lit-index l.lit-items)) (trues l.trail) l.fn.self.marks.items l.self.marks.items;
  same : IsSameBut l.fn.self l.self;
  more : l.fn.self.count ≤ l.self.count;
}
