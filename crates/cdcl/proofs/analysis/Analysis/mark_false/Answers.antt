use Rattle.std.proofs.Common.{rules, ◌≡◌, ◌∙◌, false}
use Rattle.cnf_core.specs.Deriving.{is_false}
use Rattle.cnf_core.specs.TrailViews.{trues}
use Rattle.cdcl.proofs.Counting.{marks-none, marks-one}
use Rattle.cdcl.proofs.analysis.Analysis.mark_false.Goals as goal

pub returns-then-not-is_false-clause-marks : goal.returns-then-not-is_false-clause-marks
returns-then-not-is_false-clause-marks c =
    let off : is_false (trues c.args.trail.now) c.args.lit.number ≡ false = search rules in
    marks-none (trues c.args.trail.now) c.args.self.now.marks.items c.args.lit.number off

pub returns-then-mark-clause-marks : goal.returns-then-mark-clause-marks
returns-then-mark-clause-marks c = marks-one (trues c.args.trail.now) c.args.trail.now.apart c.args.self.now.marks.items c.mark.new.self.marks.items c.args.lit.number c.place.result
    c.requires.sized c.place.ensures.within (c.place.ensures.literal ∙ c.opposite.ensures) c.mark.ensures.marks

pub returns-else-mark-clause-marks : goal.returns-else-mark-clause-marks
returns-else-mark-clause-marks c = marks-one (trues c.args.trail.now) c.args.trail.now.apart c.args.self.now.marks.items c.mark.new.self.marks.items c.args.lit.number c.place.result
    c.requires.sized c.place.ensures.within (c.place.ensures.literal ∙ c.opposite.ensures) c.mark.ensures.marks
