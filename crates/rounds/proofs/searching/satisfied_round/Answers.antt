use Rattle.std.proofs.Common.{refl, subst}
use Rattle.bv_terms.specs.Arenas.{term_at}
use Rattle.cocoon_syntax.specs.TreeOf.{design_of}
use Rattle.discharge.proofs.Telling.{among_all}
use Rattle.discharge.specs.Answering.{AnswersTo}
use Rattle.query_laws.specs.OwnNames.{input_count}
use Rattle.query_laws.specs.Queries.{asked}
use Rattle.rounds.proofs.Rounds.{big, found, numbers_fit, round, spent}
use Rattle.rounds.proofs.Witnesses.{all-there, few}
use Rattle.rounds.proofs.searching.satisfied_round.Goals as goal

pub judge-requires-clause-flat : goal.judge-requires-clause-flat
judge-requires-clause-flat c =
    let d = design_of c.args.checked.now in
    let formula = term_at c.args.terms.now c.args.formula in
    record { goal = asked d c.args.level formula c.args.instances.items; first = input_count formula; flat = c.requires.solved.satisfied.flat }

pub found-requires-clause-there : goal.found-requires-clause-there
found-requires-clause-there c =
    all-there (design_of c.args.checked.now) c.args.level (term_at c.args.terms.now c.args.formula) c.args.instances.items c.args.satisfied c.requires.solved
    c.count-count.ensures.arena

pub found-requires-clause-few : goal.found-requires-clause-few
found-requires-clause-few c =
    few (design_of c.args.checked.now) c.args.level (term_at c.args.terms.now c.args.formula) c.args.instances.items c.args.satisfied c.requires.solved
    c.count-count.ensures.arena

pub returns-in_ok-found-in-Yes : goal.returns-in_ok-found-in-Yes
returns-in_ok-found-in-Yes c =
    let d = design_of c.args.checked.now in
    let formula = term_at c.args.terms.now c.args.formula in
    let given = c.args.instances.items in
    let m = c.args.satisfied in
    let solved = c.requires.solved in
    let tables = c.in_ok-defs.field-0.defs in
    let judged = c.in_ok-defs.ensures in
    found d c.args.level formula given c.args.budget.now.conflicts c.args.budget.now.rounds c.requires.within tables (judged.of.candidate c.args.level formula given solved.satisfied)
    m solved (all-there d c.args.level formula given m solved c.count-count.ensures.arena) judged.of.formula_
    (subst (AnswersTo d c.args.level tables c.args.budget.now.conflicts) c.in-Yes.is judged.met)
    c.in_ok-found-in-Yes.field-0 c.in_ok-found-in-Yes.ensures

pub broken-requires-clause-number : goal.broken-requires-clause-number
broken-requires-clause-number c =
    let d = design_of c.args.checked.now in
    let met = subst (AnswersTo d c.args.level c.in_ok-defs.field-0.defs c.args.budget.now.conflicts) c.in-Broken.is c.in_ok-defs.ensures.met in
    among_all d c.args.level (c.earlier_levels_come_first.ensures d c.args.level) c.in-Broken.number met.0

pub broken-requires-clause-fit : goal.broken-requires-clause-fit
broken-requires-clause-fit c =
    let d = design_of c.args.checked.now in
    let rules = c.design-design.ensures.resolves.rules in
    let literals = c.code_literals_fit.ensures.designs c.args.checked.now in
    let level = c.args.level in
    let formula = term_at c.args.terms.now c.args.formula in
    let given = c.args.instances.items in
    let tables = c.in_ok-defs.field-0.defs in
    let candidate = c.in_ok-defs.ensures.of.candidate level formula given c.requires.solved.satisfied in
    numbers_fit d level formula given c.args.budget.now.conflicts c.args.budget.now.rounds c.requires.within tables candidate
    (record {
      fits = c.broken_assumptions_are_false_instances.ensures.fits d rules literals level formula given tables candidate;
      untrue = c.broken_assumptions_are_false_instances.ensures.false_ d rules literals level formula given tables candidate;
      more = c.broken_instances_keep_progress.ensures.more d level formula given c.requires.within.progress tables candidate;
    }) c.in-Broken.number c.in-Broken.values
    (subst (AnswersTo d level tables c.args.budget.now.conflicts) c.in-Broken.is c.in_ok-defs.ensures.met)

pub returns-in_ok-values-in-Broken : goal.returns-in_ok-values-in-Broken
returns-in_ok-values-in-Broken c =
    let d = design_of c.args.checked.now in
    let rules = c.design-design.ensures.resolves.rules in
    let literals = c.code_literals_fit.ensures.designs c.args.checked.now in
    let level = c.args.level in
    let formula = term_at c.args.terms.now c.args.formula in
    let given = c.args.instances.items in
    let tables = c.in_ok-defs.field-0.defs in
    let candidate = c.in_ok-defs.ensures.of.candidate level formula given c.requires.solved.satisfied in
    round d level formula given c.args.budget.now.conflicts c.args.budget.now.rounds c.requires.within tables candidate
    (record {
      fits = c.broken_assumptions_are_false_instances.ensures.fits d rules literals level formula given tables candidate;
      untrue = c.broken_assumptions_are_false_instances.ensures.false_ d rules literals level formula given tables candidate;
      more = c.broken_instances_keep_progress.ensures.more d level formula given c.requires.within.progress tables candidate;
    }) c.in-Broken.number c.in-Broken.values
    (subst (AnswersTo d level tables c.args.budget.now.conflicts) c.in-Broken.is c.in_ok-defs.ensures.met)
    given refl c.in_ok-instance-in-Broken.instance c.in_ok-instance-in-Broken.ensures

pub returns-in-SpentConflicts : goal.returns-in-SpentConflicts
returns-in-SpentConflicts c =
    let d = design_of c.args.checked.now in
    let formula = term_at c.args.terms.now c.args.formula in
    let given = c.args.instances.items in
    let judged = c.in_ok-defs.ensures in
    let candidate = judged.of.candidate c.args.level formula given c.requires.solved.satisfied in
    spent d c.args.level formula given c.args.budget.now.conflicts c.args.budget.now.rounds c.requires.within c.in_ok-defs.field-0.defs candidate
    c.in-SpentConflicts.number c.in-SpentConflicts.vars c.in-SpentConflicts.log
    (subst (AnswersTo d c.args.level c.in_ok-defs.field-0.defs c.args.budget.now.conflicts) c.in-SpentConflicts.is judged.met) c.from.result c.from.ensures

pub returns-in-Big : goal.returns-in-Big
returns-in-Big c =
    let d = design_of c.args.checked.now in
    let formula = term_at c.args.terms.now c.args.formula in
    let given = c.args.instances.items in
    let judged = c.in_ok-defs.ensures in
    let candidate = judged.of.candidate c.args.level formula given c.requires.solved.satisfied in
    big d c.args.level formula given c.args.budget.now.conflicts c.args.budget.now.rounds c.requires.within c.in_ok-defs.field-0.defs candidate
    c.in-Big.number c.in-Big.count
    (subst (AnswersTo d c.args.level c.in_ok-defs.field-0.defs c.args.budget.now.conflicts) c.in-Big.is judged.met) c.from-in-Big.result c.from-in-Big.ensures
