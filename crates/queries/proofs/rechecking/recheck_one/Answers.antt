use Rattle.cocoon_syntax.specs.TreeOf.{design_of}
use Rattle.query_laws.specs.LeafTerms.{Stands}
use Rattle.obligation_gen.proofs.OwedFormulas.{can_ask, never_fails}
use Rattle.queries.proofs.rechecking.recheck_one.Goals as goal

pub check_cert-requires-clause-level : goal.check_cert-requires-clause-level
check_cert-requires-clause-level c =
    let d = design_of c.args.checked.now in
    let rules = c.design-design.ensures.resolves.rules in
    let literals = c.code_literals_fit.ensures.designs c.args.checked.now in
    (can_ask d (Stands d 1) c.args.terms.now c.args.obligation.now (record { stands = c.formulas_apply_declared_functions.ensures d rules literals; levels = c.obligations_have_levels.ensures d }) c.requires).level

pub check_cert-requires-clause-there : goal.check_cert-requires-clause-there
check_cert-requires-clause-there c = c.requires.shown.formula_.there

pub check_cert-requires-clause-stands : goal.check_cert-requires-clause-stands
check_cert-requires-clause-stands c =
    let d = design_of c.args.checked.now in
    let rules = c.design-design.ensures.resolves.rules in
    let literals = c.code_literals_fit.ensures.designs c.args.checked.now in
    (can_ask d (Stands d 1) c.args.terms.now c.args.obligation.now (record { stands = c.formulas_apply_declared_functions.ensures d rules literals; levels = c.obligations_have_levels.ensures d }) c.requires).stands

pub returns-clause-holds : goal.returns-clause-holds
returns-clause-holds c = λ e.
    let d = design_of c.args.checked.now in
    let rules = c.design-design.ensures.resolves.rules in
    let literals = c.code_literals_fit.ensures.designs c.args.checked.now in
    never_fails d c.args.terms.now c.args.obligation.now (c.untrue_formulas_never_fail.ensures.all d rules literals) (c.check_cert.ensures.holds e)
