use Rattle.std.proofs.Common.{◌≡◌, ◌-◌, arith}
use Rattle.std.proofs.lemmas.Result.{IfOk-weaker}
use Rattle.cocoon_syntax.specs.TreeOf.{design_of}
use Rattle.cocoon_types.specs.Design.{last_level}
use Rattle.discharge.proofs.Telling.{of_all}
use Rattle.discharge.proofs.meeting.meets.Goals as goal

pub returns : goal.returns
returns c =
    let d = design_of c.args.checked.now in
    let level = c.levels.result - 1 in
    let last : level ≡ last_level d = (let e = c.levels.ensures in omega (arith, e)) in
    IfOk-weaker c.meets_to.result _ _ (λ met h. of_all d level last c.args.defs.now c.args.budget.now.conflicts met h) c.meets_to.ensures
