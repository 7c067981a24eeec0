use Rattle.std.proofs.Common.{subst}
use Rattle.std.proofs.lemmas.Result.{IfOk-weaker}
use Rattle.cocoon_syntax.specs.TreeOf.{design_of}
use Rattle.query_laws.specs.LeafTerms.{Stands}
use Rattle.obligation_gen.proofs.OwedFormulas.{can_ask}
use Rattle.rounds.specs.Outcomes.{Tells}
use Rattle.verdicts.specs.Deciding.{formula_in}
use Rattle.verdicts.proofs.Outcomes.{can_fail, decided, holds_by}
use Rattle.verdicts.proofs.True.{elsewhere}
use Rattle.verdicts.proofs.deciding.decide.Goals as goal

pub search-requires-clause-level : goal.search-requires-clause-level
search-requires-clause-level c =
    let d = design_of c.args.checked.now in
    let rules = c.design-design.ensures.resolves.rules in
    let literals = c.code_literals_fit.ensures.designs c.args.checked.now in
    (can_ask d (Stands d 1) c.args.terms.now c.args.obligation.now (record { stands = c.formulas_apply_declared_functions.ensures d rules literals; levels = c.obligations_have_levels.ensures d }) c.requires.owed).level

pub search-requires-clause-there : goal.search-requires-clause-there
search-requires-clause-there c = c.requires.owed.shown.formula_.there

pub search-requires-clause-stands : goal.search-requires-clause-stands
search-requires-clause-stands c =
    let d = design_of c.args.checked.now in
    let rules = c.design-design.ensures.resolves.rules in
    let literals = c.code_literals_fit.ensures.designs c.args.checked.now in
    (can_ask d (Stands d 1) c.args.terms.now c.args.obligation.now (record { stands = c.formulas_apply_declared_functions.ensures d rules literals; levels = c.obligations_have_levels.ensures d }) c.requires.owed).stands

pub failing-requires-clause-owed : goal.failing-requires-clause-owed
failing-requires-clause-owed c = c.requires.owed

pub failing-requires-clause-defs : goal.failing-requires-clause-defs
failing-requires-clause-defs c =
    let d = design_of c.args.checked.now in
    let o = c.args.obligation.now in
    let formula = formula_in c.args.terms.now o in
    can_fail d o.level formula c.args.budget.now.rounds c.in-Found.witness
    (subst (Tells d o.level formula c.args.budget.now.conflicts c.args.budget.now.rounds) c.in-Found.is c.in_ok-outcome.ensures)

pub failing-requires-clause-true_ : goal.failing-requires-clause-true_
failing-requires-clause-true_ c =
    let d = design_of c.args.checked.now in
    let o = c.args.obligation.now in
    let formula = formula_in c.args.terms.now o in
    (subst (Tells d o.level formula c.args.budget.now.conflicts c.args.budget.now.rounds) c.in-Found.is c.in_ok-outcome.ensures).formula_

pub failing-requires-clause-others : goal.failing-requires-clause-others
failing-requires-clause-others c =
    let d = design_of c.args.checked.now in
    let o = c.args.obligation.now in
    let formula = formula_in c.args.terms.now o in
    let is = subst (Tells d o.level formula c.args.budget.now.conflicts c.args.budget.now.rounds) c.in-Found.is c.in_ok-outcome.ensures in
    elsewhere formula c.in-Found.witness.inputs c.in-Found.witness.values is.inputs is.values

pub returns-in-Found : goal.returns-in-Found
returns-in-Found c =
    IfOk-weaker c.failing.result _ _ (decided (design_of c.args.checked.now) c.args.terms.now c.args.obligation.now c.args.budget.now.conflicts c.args.budget.now.rounds) c.failing.ensures

pub returns-in-Holds : goal.returns-in-Holds
returns-in-Holds c =
    let d = design_of c.args.checked.now in
    let o = c.args.obligation.now in
    let formula = formula_in c.args.terms.now o in
    holds_by d c.args.terms.now o c.args.budget.now.conflicts c.args.budget.now.rounds c.in-Holds.cert
    (c.untrue_formulas_never_fail.ensures.all d c.design-design.ensures.resolves.rules (c.code_literals_fit.ensures.designs c.args.checked.now))
    (subst (Tells d o.level formula c.args.budget.now.conflicts c.args.budget.now.rounds) c.in-Holds.is c.in_ok-outcome.ensures)
