use Rattle.std.proofs.Common.{sym, subst}
use Rattle.std.proofs.lemmas.Result.{IfOk-weaker}
use Rattle.bv_terms.specs.Arenas.{term_at}
use Rattle.cocoon_syntax.specs.TreeOf.{design_of}
use Rattle.discharge.specs.Answering.{IsSpentOn}
use Rattle.query_laws.specs.Certified.{AllFit, HasTooMany}
use Rattle.rounds.specs.Steps.{Says}
use Rattle.rounds.proofs.Rounds.{can_be_true, goal_asked, shows_never_true}
use Rattle.rounds.proofs.searching.one_round.Goals as goal

pub ask-requires-clause-fit : goal.ask-requires-clause-fit
ask-requires-clause-fit c =
    subst (AllFit (design_of c.args.checked.now) c.args.level) (sym c.deref.ensures.value) c.requires.within.progress.fit

pub satisfied_round-requires-clause-solved : goal.satisfied_round-requires-clause-solved
satisfied_round-requires-clause-solved c =
    let d = design_of c.args.checked.now in
    let formula = term_at c.args.terms.now c.args.formula in
    let given = c.args.instances.items in
    let conflicts = c.args.budget.now.conflicts in
    let said = subst (λ is. Says d c.args.level formula is conflicts c.in_ok-satisfied.field-0) c.deref.ensures.value c.in_ok-satisfied.ensures in
    (subst (Says d c.args.level formula given conflicts) c.in-Satisfied.is said).0

pub returns-in-Satisfied-clause-satisfiable : goal.returns-in-Satisfied-clause-satisfiable
returns-in-Satisfied-clause-satisfiable c =
    let d = design_of c.args.checked.now in
    let formula = term_at c.args.terms.now c.args.formula in
    let given = c.args.instances.items in
    let conflicts = c.args.budget.now.conflicts in
    let said = subst (λ is. Says d c.args.level formula is conflicts c.in_ok-satisfied.field-0) c.deref.ensures.value c.in_ok-satisfied.ensures in
    let satisfiable = (subst (Says d c.args.level formula given conflicts) c.in-Satisfied.is said).1 in
    IfOk-weaker c.satisfied_round.result _ _ (λ r h. can_be_true d c.args.level formula given satisfiable r) c.satisfied_round.ensures

pub returns-in-Refuted-clause-comes : goal.returns-in-Refuted-clause-comes
returns-in-Refuted-clause-comes c =
    let d = design_of c.args.checked.now in
    let formula = term_at c.args.terms.now c.args.formula in
    let given = c.args.instances.items in
    let conflicts = c.args.budget.now.conflicts in
    let said = subst (λ is. Says d c.args.level formula is conflicts c.in_ok-satisfied.field-0) c.deref.ensures.value c.in_ok-satisfied.ensures in
    shows_never_true d c.args.level formula given conflicts c.args.budget.now.rounds c.requires.within c.in-Refuted.log
    (subst (Says d c.args.level formula given conflicts) c.in-Refuted.is said) c.from-instances.result c.from-instances.ensures

pub returns-in-Spent-clause-comes : goal.returns-in-Spent-clause-comes
returns-in-Spent-clause-comes c =
    let d = design_of c.args.checked.now in
    let formula = term_at c.args.terms.now c.args.formula in
    let given = c.args.instances.items in
    let conflicts = c.args.budget.now.conflicts in
    let said = subst (λ is. Says d c.args.level formula is conflicts c.in_ok-satisfied.field-0) c.deref.ensures.value c.in_ok-satisfied.ensures in
    goal_asked d c.args.level formula given conflicts c.args.budget.now.rounds c.requires.within (λ g. IsSpentOn g conflicts c.in-Spent.vars c.in-Spent.log)
    (subst (Says d c.args.level formula given conflicts) c.in-Spent.is said) c.from.result c.from.ensures

pub returns-in-Big-clause-comes : goal.returns-in-Big-clause-comes
returns-in-Big-clause-comes c =
    let d = design_of c.args.checked.now in
    let formula = term_at c.args.terms.now c.args.formula in
    let given = c.args.instances.items in
    let conflicts = c.args.budget.now.conflicts in
    let said = subst (λ is. Says d c.args.level formula is conflicts c.in_ok-satisfied.field-0) c.deref.ensures.value c.in_ok-satisfied.ensures in
    goal_asked d c.args.level formula given conflicts c.args.budget.now.rounds c.requires.within (λ g. HasTooMany g c.in-Big.count)
    (subst (Says d c.args.level formula given conflicts) c.in-Big.is said) c.from-in-Big.result c.from-in-Big.ensures
