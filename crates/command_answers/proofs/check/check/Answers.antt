use Rattle.std.proofs.Common.{◌≡◌, [], length, ap, ap₂, inl, inr, rules, subst, ◌∙◌}
use Rattle.std.specs.Prelude.{Vec, ℕ}
use Rattle.std.specs.declared.alloc.Global.{Global}
use Rattle.cocoon_syntax.specs.TreeOf.{design_of}
use Rattle.command_line.specs.Command.{check as command}
use Rattle.command_reports.specs.Report.{success}
use Rattle.obligation_gen.specs.Counted.{AreFew, all_counts}
use Rattle.command_answers.specs.Answering.{IsFound, Asked}
use Rattle.command_answers.specs.Commands.{owed_steps}
use Rattle.command_answers.specs.Outcomes.{none}
use Rattle.command_answers.specs.Refining.{IsEnded, IsRefined, KeepsAll}
use Rattle.command_answers.specs.ReportLines.{checked_line}
use Rattle.command_answers.specs.declared.answer.Writing.TheVariants.{Nothing}
use Rattle.command_answers.proofs.Counted.{passed}
use Rattle.command_answers.proofs.Owing.{is_ended, not_refined, plans_ended, refined_good}
use Rattle.command_answers.proofs.TextSteps.{after_checked, checked_first, checked_good, not_checked, on_design}
use Rattle.command_answers.proofs.check.check.Goals as goal

pub returns-in_err-checked-clause-asked : goal.returns-in_err-checked-clause-asked
returns-in_err-checked-clause-asked c = λ inputs design.
    let asked = c.args.asked.now in
    let r = c.in_err-checked.field-0.0 in
    passed (Asked (command asked.design.now asked.conflicts asked.rounds) inputs) _ r c.from_residual.ensures.1 (not_checked inputs c.args.design.now _ r design c.in_err-checked.ensures.refused)

pub returns-in_err-decided-clause-asked : goal.returns-in_err-decided-clause-asked
returns-in_err-decided-clause-asked c = λ inputs design.
    let asked = c.args.asked.now in
    let x = c.args.design.now in
    let d = design_of c.in_ok-checked.checked in
    let reads = c.in_ok-checked.ensures.reads in
    let r = c.in_err-decided.field-0.0 in
    passed (Asked (command asked.design.now asked.conflicts asked.rounds) inputs) _ r c.from_residual-in_err-decided.ensures.1
    (after_checked inputs x (owed_steps asked.conflicts asked.rounds []) d _ design reads (not_refined inputs x asked.conflicts asked.rounds [] d r design reads c.in_err-decided.ensures.refused))

pub returns-in-Ended-clause-asked : goal.returns-in-Ended-clause-asked
returns-in-Ended-clause-asked c = λ inputs design.
    let n = c.args.asked.now.conflicts in
    let m = c.args.asked.now.rounds in
    let x = c.args.design.now in
    let d = design_of c.in_ok-checked.checked in
    let reads = c.in_ok-checked.ensures.reads in
    let answer = c.in-Ended.answer in
    let is : AreFew (all_counts d) × IsEnded d n m answer = subst (IsRefined d n m) c.in-Ended.is c.in_ok-decided.ensures.decided in
    inr (checked_first inputs x (owed_steps n m []) d (IsFound inputs answer.report answer.writing) design reads (is_ended inputs x n m [] d answer design reads is.0 is.1))

pub returns-clause-asked : goal.returns-clause-asked
returns-clause-asked c = λ inputs design.
    let n = c.args.asked.now.conflicts in
    let m = c.args.asked.now.rounds in
    let x = c.args.design.now in
    let d = design_of c.in_ok-checked.checked in
    let reads = c.in_ok-checked.ensures.reads in
    let kept : KeepsAll d c.in-Holds.certs.certs = subst (IsRefined d n m) c.in-Holds.is c.in_ok-decided.ensures.decided in
    let same : length c.items.result.now ≡ length c.in-Holds.certs.certs = search rules in
    inl (
      checked_good inputs x (owed_steps n m []) d design reads (refined_good inputs x n m [] d design reads kept.few kept.refines none),
      on_design inputs x d design reads.reads (c.success.ensures ∙ ap success (ap (λ (v : Vec ℕ Global). v.items) c.into_bytes.ensures.value ∙ c.in_ok-line-in-Holds.ensures ∙ ap₂ checked_line c.levels.ensures (same ∙ kept.counted))),
    )

pub returns-in-Ended-clause-plans : goal.returns-in-Ended-clause-plans
returns-in-Ended-clause-plans c =
    let n = c.args.asked.now.conflicts in
    let m = c.args.asked.now.rounds in
    let d = design_of c.in_ok-checked.checked in
    let answer = c.in-Ended.answer in
    let is : AreFew (all_counts d) × IsEnded d n m answer = subst (IsRefined d n m) c.in-Ended.is c.in_ok-decided.ensures.decided in
    plans_ended (λ w. w ≡ Nothing) d n m answer is.1
