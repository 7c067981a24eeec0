use Rattle.std.proofs.Common.{take}
use Rattle.cnf_core.specs.Trails.{HasStatus, numbers}
use Rattle.cnf_core.specs.TrailViews.{trues}
use Rattle.cnf_core.proofs.trail.Trail.status.Given as goal

abbrev pub invariant-loop-lit : goal.invariant-loop-lit
invariant-loop-lit l = HasStatus (trues l.self) (numbers (take l.lit-index l.lit-items)) l.status
