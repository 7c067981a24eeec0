use Rattle.cocoon_syntax.specs.TreeOf.{design_of}
use Rattle.query_laws.specs.LeafTerms.{Stands, any_input}
use Rattle.obligation_gen.proofs.OwedFormulas.{can_ask}
use Rattle.obligation_tests.proofs.instances.taken.Goals as goal

pub pattern_instances-requires-clause-level : goal.pattern_instances-requires-clause-level
pattern_instances-requires-clause-level c =
    let d = design_of c.args.checked.now in
    let rules = c.design-design.ensures.resolves.rules in
    let literals = c.code_literals_fit.ensures.designs c.args.checked.now in
    (can_ask d (Stands d 1) c.args.terms.now c.args.obligation.now (record { stands = c.formulas_apply_declared_functions.ensures d rules literals; levels = c.obligations_have_levels.ensures d }) c.requires).level

pub pattern_instances-requires-clause-goal : goal.pattern_instances-requires-clause-goal
pattern_instances-requires-clause-goal c = c.requires.shown.formula_.there

pub pattern_instances-requires-clause-over : goal.pattern_instances-requires-clause-over
pattern_instances-requires-clause-over c =
    let d = design_of c.args.checked.now in
    let rules = c.design-design.ensures.resolves.rules in
    let literals = c.code_literals_fit.ensures.designs c.args.checked.now in
    (any_input, (can_ask d (Stands d 1) c.args.terms.now c.args.obligation.now (record { stands = c.formulas_apply_declared_functions.ensures d rules literals; levels = c.obligations_have_levels.ensures d }) c.requires).stands.1)
