use Rattle.std.proofs.Common.{◌≡◌, drop}
use Rattle.cnf_core.specs.Clauses.{literals}
use Rattle.cnf_core.specs.Licensing.{subsumed_by}
use Rattle.cnf_core.specs.Trails.{numbers}
use Rattle.cnf_core.specs.TrailViews.{trues}
use Rattle.proof_check.proofs.subsumption.are_true.Given as goal

abbrev pub invariant-loop-lit : goal.invariant-loop-lit
invariant-loop-lit l = subsumed_by (trues l.trail) (numbers (drop l.lit-index l.lit-items)) ≡ subsumed_by (trues l.trail) (literals l.clause)
