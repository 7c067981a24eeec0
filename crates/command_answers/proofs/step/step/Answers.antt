use Rattle.std.proofs.Common.{ap, inl, ◌∙◌}
use Rattle.command_line.specs.Command.{step as command}
use Rattle.command_reports.specs.Report.{success}
use Rattle.command_answers.specs.Answering.{Asked}
use Rattle.command_answers.proofs.Counted.{passed}
use Rattle.command_answers.proofs.Stepped.{asks_good, not_stepped, reports}
use Rattle.command_answers.proofs.step.step.Goals as goal

pub returns-in_err-sent-clause-asked : goal.returns-in_err-sent-clause-asked
returns-in_err-sent-clause-asked c = λ inputs design defs case.
    let asked = c.args.asked.now in
    let r = c.in_err-sent.field-0.0 in
    passed (Asked (command asked.design.now asked.defs.now asked.level asked.file.now) inputs) _ r c.from_residual.ensures.1
    (not_stepped asked.design.now asked.defs.now asked.level asked.file.now inputs c.args.design.now c.args.defs.now c.args.text.now r
    (record { design = design; defs = defs }) case c.in_err-sent.ensures.refused)

pub returns-clause-asked : goal.returns-clause-asked
returns-clause-asked c = λ inputs design defs case.
    let asked = c.args.asked.now in
    let sent = c.in_ok-sent.sent in
    let steps = c.in_ok-sent.ensures.steps in inl (
      asks_good asked.design.now asked.defs.now asked.level asked.file.now inputs c.args.design.now c.args.defs.now c.args.text.now sent (record { design = design; defs = defs }) case steps,
      reports asked.design.now asked.defs.now asked.level asked.file.now inputs c.args.design.now c.args.defs.now c.args.text.now sent _ (record { design = design; defs = defs }) case steps
          (c.success.ensures ∙ ap success c.in_ok-lines.ensures),
    )
