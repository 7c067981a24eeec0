use Rattle.std.proofs.Common.{◌≡◌, map, rules, subst}
use Rattle.cocoon_syntax.specs.TreeOf.{design_of}
use Rattle.verdicts.specs.Deciding.{Decides, formula_in}
use Rattle.cnf_core.specs.CertsOf.{instance_of}
use Rattle.cert_text.specs.Spent as spent
use Rattle.command_answers.specs.Answering.{TellsSpent}
use Rattle.command_answers.specs.Refining.{by_rounds}
use Rattle.command_answers.specs.ReportLines.{rounds_line}
use Rattle.command_answers.proofs.Kept.{failing, has_tables, is_shown, unshown_by}
use Rattle.command_answers.proofs.obligations.show_one.Goals as goal

pub failed_answer-requires : goal.failed_answer-requires
failed_answer-requires c =
    (subst (Decides (design_of c.args.checked.now) c.args.terms.now c.args.obligation.now c.from.result c.args.rounds) c.in-Refuted.is c.in_ok-verdict.ensures).fits

pub failed_answer-requires-in-Over : goal.failed_answer-requires-in-Over
failed_answer-requires-in-Over c =
    (subst (Decides (design_of c.args.checked.now) c.args.terms.now c.args.obligation.now c.from.result c.args.rounds) c.in-Over.is c.in_ok-verdict.ensures).fits

pub spent_answer-requires : goal.spent_answer-requires
spent_answer-requires c =
    has_tables (design_of c.args.checked.now) c.args.obligation.now.level (formula_in c.args.terms.now c.args.obligation.now) c.args.rounds _ _
    (subst (Decides (design_of c.args.checked.now) c.args.terms.now c.args.obligation.now c.from.result c.args.rounds) c.in-SpentConflicts.is c.in_ok-verdict.ensures)

pub returns-in-Holds-clause-decided : goal.returns-in-Holds-clause-decided
returns-in-Holds-clause-decided c =
    is_shown (design_of c.args.checked.now) c.args.terms.now c.args.obligation.now _ c.args.rounds c.in-Holds.cert
    (subst (Decides (design_of c.args.checked.now) c.args.terms.now c.args.obligation.now c.from.result c.args.rounds) c.in-Holds.is c.in_ok-verdict.ensures)

pub returns-in-Refuted-clause-decided : goal.returns-in-Refuted-clause-decided
returns-in-Refuted-clause-decided c =
    failing (design_of c.args.checked.now) c.args.terms.now c.args.obligation.now c.args.conflicts c.args.rounds c.args.number _ _ _
    (subst (Decides (design_of c.args.checked.now) c.args.terms.now c.args.obligation.now c.from.result c.args.rounds) c.in-Refuted.is c.in_ok-verdict.ensures) c.in_ok-answer-in-Refuted.ensures

pub returns-in-Over-clause-decided : goal.returns-in-Over-clause-decided
returns-in-Over-clause-decided c =
    failing (design_of c.args.checked.now) c.args.terms.now c.args.obligation.now c.args.conflicts c.args.rounds c.args.number _ _ _
    (subst (Decides (design_of c.args.checked.now) c.args.terms.now c.args.obligation.now c.from.result c.args.rounds) c.in-Over.is c.in_ok-verdict.ensures) c.in_ok-answer-in-Over.ensures

pub returns-in-SpentConflicts-clause-decided : goal.returns-in-SpentConflicts-clause-decided
returns-in-SpentConflicts-clause-decided c =
    let same : c.from.result ≡ c.args.conflicts = search rules in
    unshown_by (design_of c.args.checked.now) c.args.terms.now c.args.obligation.now c.args.conflicts c.args.rounds c.from.result c.args.number _ _ _ _ same
    (subst (Decides (design_of c.args.checked.now) c.args.terms.now c.args.obligation.now c.from.result c.args.rounds) c.in-SpentConflicts.is c.in_ok-verdict.ensures) c.in_ok-answer-in-SpentConflicts.ensures

pub returns-in-SpentRounds-clause-decided : goal.returns-in-SpentRounds-clause-decided
returns-in-SpentRounds-clause-decided c =
    let of = subst (Decides (design_of c.args.checked.now) c.args.terms.now c.args.obligation.now c.from.result c.args.rounds) c.in-SpentRounds.is c.in_ok-verdict.ensures in
    let same : c.items.result.now ≡ c.in-SpentRounds.instances = c.items.ensures in
    by_rounds _ of (subst (λ xs. TellsSpent (rounds_line c.args.rounds c.args.number) (spent.rounds c.args.number (map instance_of xs)) c.in_ok-answer-in-SpentRounds.answer) same c.in_ok-answer-in-SpentRounds.ensures)
