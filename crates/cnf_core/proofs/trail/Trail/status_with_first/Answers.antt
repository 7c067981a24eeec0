use Rattle.std.proofs.Common.{◌∙◌, sym}
use Rattle.cnf_core.specs.TrailViews.{trues}
use Rattle.cnf_core.proofs.ClauseStatuses.{conflict-open}
use Rattle.cnf_core.proofs.trail.Trail.status_with_first.Goals as goal

pub returns : goal.returns
returns c = λ ls h. conflict-open (trues c.args.self.now) ls c.args.lit h (sym c.is_false.ensures ∙ c.if-is_false.false) (sym c.is_true.ensures ∙ c.if-is_true.false)
