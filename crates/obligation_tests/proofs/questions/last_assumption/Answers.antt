use Rattle.std.proofs.Common.{◌-◌}
use Rattle.cocoon_syntax.specs.TreeOf.{assume_of, design_of}
use Rattle.cocoon_types.specs.Design.{last_level}
use Rattle.obligation_tests.proofs.questions.last_assumption.Goals as goal

pub returns : goal.returns
returns c =
    let d = design_of c.args.checked.now in
    c.declarations_are_typed.ensures.assumptions d c.design-design.ensures.resolves.rules (c.code_literals_fit.ensures.designs c.args.checked.now) (last_level d)
    (c.assume_count-count.result - 1) (assume_of c.assumption.result.now) c.assumption.ensures
