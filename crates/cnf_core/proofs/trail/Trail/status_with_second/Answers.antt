use Rattle.std.proofs.Common.{◌∙◌, sym}
use Rattle.cnf_core.specs.TrailViews.{trues}
use Rattle.cnf_core.proofs.ClauseStatuses.{forces-other, forces-same}
use Rattle.cnf_core.proofs.trail.Trail.status_with_second.Goals as goal

pub returns-then-is_same : goal.returns-then-is_same
returns-then-is_same c = λ ls h. forces-same (trues c.args.self.now) ls c.args.forced c.args.lit.number h (sym c.is_same.ensures ∙ c.if-is_same.true)

pub returns : goal.returns
returns c = λ ls h. forces-other (trues c.args.self.now) ls c.args.forced c.args.lit.number h (sym c.is_false.ensures ∙ c.if-is_false.false) (sym c.is_same.ensures ∙ c.if-is_same.false)
