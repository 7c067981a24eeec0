use Rattle.cocoon_syntax.specs.TreeOf.{design_of}
use Rattle.query_laws.specs.LeafTerms.{Stands}
use Rattle.obligation_gen.proofs.OwedFormulas.{can_ask}
use Rattle.obligation_tests.proofs.asking.clauses.Goals as goal

pub all_fit-requires : goal.all_fit-requires
all_fit-requires c =
    let d = design_of c.args.checked.now in
    let rules = c.design-design.ensures.resolves.rules in
    let literals = c.code_literals_fit.ensures.designs c.args.checked.now in
    (can_ask d (Stands d 1) c.args.terms.now c.args.obligation.now (record { stands = c.formulas_apply_declared_functions.ensures d rules literals; levels = c.obligations_have_levels.ensures d }) c.requires).level

pub query-requires-clause-level : goal.query-requires-clause-level
query-requires-clause-level c =
    let d = design_of c.args.checked.now in
    let rules = c.design-design.ensures.resolves.rules in
    let literals = c.code_literals_fit.ensures.designs c.args.checked.now in
    (can_ask d (Stands d 1) c.args.terms.now c.args.obligation.now (record { stands = c.formulas_apply_declared_functions.ensures d rules literals; levels = c.obligations_have_levels.ensures d }) c.requires).level

pub query-requires-clause-there : goal.query-requires-clause-there
query-requires-clause-there c = c.requires.shown.formula_.there

pub query-requires-clause-stands : goal.query-requires-clause-stands
query-requires-clause-stands c =
    let d = design_of c.args.checked.now in
    let rules = c.design-design.ensures.resolves.rules in
    let literals = c.code_literals_fit.ensures.designs c.args.checked.now in
    (can_ask d (Stands d 1) c.args.terms.now c.args.obligation.now (record { stands = c.formulas_apply_declared_functions.ensures d rules literals; levels = c.obligations_have_levels.ensures d }) c.requires).stands
