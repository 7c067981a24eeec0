use Rattle.std.proofs.Common.{ap, ◌∙◌}
use Rattle.command_reports.specs.Report.{given_up}
use Rattle.command_answers.proofs.obligations.spent_answer.Goals as goal

pub returns : goal.returns
returns c = record {
  told = c.given_up.ensures.told ∙ ap given_up c.in_ok-line.ensures;
  bytes = c.in_ok-file.file.items;
  written = c.given_up.ensures.written;
  file = c.in_ok-file.ensures;
}
