use Rattle.std.proofs.Common.{◌<◌, ◌≤◌, length, arith, subst}
use Rattle.cocoon_resolve.specs.Readers.{all_assumptions, assumptions_to}
use Rattle.cocoon_syntax.specs.TreeOf.{design_of}
use Rattle.discharge.specs.Asked.{Says}
use Rattle.discharge.proofs.Lists.{at_there}
use Rattle.discharge.proofs.Telling.{all_met_to, among_all, last_told_to, one_met}
use Rattle.discharge.proofs.meeting.meets_to.Goals as goal

pub met_one-requires-clause-number : goal.met_one-requires-clause-number
met_one-requires-clause-number c =
    let d = design_of c.args.checked.now in
    let level = c.args.level in
    let i = c.loop-number.number in
    let here : i < length (assumptions_to level d) = (let count = c.assume_count-number-end.ensures in let more = c.loop-number-test.true in omega (arith, count, more)) in
    among_all d level (c.earlier_levels_come_first.ensures d level) i here

pub returns-in_default : goal.returns-in_default
returns-in_default c =
    let d = design_of c.args.checked.now in
    let level = c.args.level in
    let i = c.loop-number.number in
    let here : i < length (assumptions_to level d) = (let count = c.assume_count-number-end.ensures in let more = c.loop-number-test.true in omega (arith, count, more)) in
    let a = at_there (all_assumptions d) i (among_all d level (c.earlier_levels_come_first.ensures d level) i here) in
    last_told_to d level c.args.defs.now c.args.budget.now.conflicts i here a.0 a.1 c.loop-number.invariant c.in_ok-met.met c.in_default.not-Yes (c.in_ok-met.ensures a.0 a.1)

pub loop-number-preserved : goal.loop-number-preserved
loop-number-preserved c =
    let d = design_of c.args.checked.now in
    let level = c.args.level in
    let i = c.loop-number.number in
    let here : i < length (assumptions_to level d) = (let count = c.assume_count-number-end.ensures in let more = c.loop-number-test.true in omega (arith, count, more)) in
    let a = at_there (all_assumptions d) i (among_all d level (c.earlier_levels_come_first.ensures d level) i here) in
    one_met d c.args.defs.now i a.0 a.1 c.loop-number.invariant (subst (Says d c.args.defs.now c.args.budget.now.conflicts i a.0) c.in-Yes.is (c.in_ok-met.ensures a.0 a.1))

pub returns : goal.returns
returns c =
    let d = design_of c.args.checked.now in
    let level = c.args.level in
    let i = c.loop-number.number in
    let done : length (assumptions_to level d) ≤ i = (let count = c.assume_count-number-end.ensures in let no = c.loop-number-test.false in omega (arith, count, no)) in
    all_met_to d level (c.earlier_levels_come_first.ensures d level) c.args.defs.now c.args.budget.now.conflicts i done c.loop-number.invariant
