use Rattle.std.proofs.Common.{◌≡◌, ◌-◌, ◌≤◌, length, drop, sym, ◌∙◌, arith}
use Rattle.std.proofs.lemmas.List.{length-drop}
use Rattle.p4_run.proofs.FaultSteps.{ascend_short}
use Rattle.p4_run.proofs.faults.ascend.Goals as goal

pub returns : goal.returns
returns c =
    let ms = c.args.members.now in
    let at = c.loop-at.at in
    let positive : 1 ≤ at = c.loop-at.invariant.positive in
    let over : length ms ≤ at = c.loop-at-test.false in
    let left : length (drop (at - 1) ms) ≡ length ms - (at - 1) = length-drop (at - 1) ms in
    sym (ascend_short (drop (at - 1) ms) (omega arith)) ∙ c.loop-at.invariant.rest
