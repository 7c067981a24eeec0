use Rattle.std.proofs.Common.{subst}
use Rattle.std.proofs.Common.{◌∷◌, []}
use Rattle.cnf_core.specs.Trails.{HasStatus}
use Rattle.cnf_core.specs.TrailViews.{trues}
use Rattle.cnf_core.proofs.ClauseStatuses.{open-longer}
use Rattle.cnf_core.proofs.trail.Trail.status_with.Goals as goal

pub returns-in-Open : goal.returns-in-Open
returns-in-Open c = λ ls h. open-longer (trues c.args.self.now) ls (c.args.lit.number ∷ []) (subst (HasStatus (trues c.args.self.now) ls) c.in-Open.is h)
