use Rattle.std.proofs.Common.{◌∙◌, ◌++◌, ap, arith, map}
use Rattle.cnf_core.specs.Literals.{opposite}
use Rattle.cnf_core.specs.Trails.{numbers}
use Rattle.cnf_core.specs.TrailViews.{trues}
use Rattle.cdcl.specs.Marks.{opposite_at}
use Rattle.cdcl.proofs.LearnedClauses.{marked-all, marked-more}
use Rattle.cdcl.proofs.learning.learned.Goals as goal

pub loop-place-preserved : goal.loop-place-preserved
loop-place-preserved c =
    let marks = c.args.analysis.now.marks.items in
    let ts = trues c.args.search.now.trail in
    c.in_ok-add_opposite.ensures ∙ ap (λ ls. ls ++ opposite_at marks ts c.loop-place.place) c.loop-place.invariant
    ∙ marked-more marks ts c.loop-place.place c.requires (omega (arith, c.loop-place-test.true, c.len-place-end.ensures))

pub returns : goal.returns
returns c =
    let marks = c.args.analysis.now.marks.items in
    let ts = trues c.args.search.now.trail in
    ap numbers c.from.ensures ∙ c.loop-place.invariant ∙ ap (map opposite) (marked-all marks ts c.loop-place.place c.requires (omega (arith, c.loop-place-test.false, c.len-place-end.ensures)))
