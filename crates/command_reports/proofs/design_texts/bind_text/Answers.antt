use Rattle.std.proofs.Common.{inr}
use Rattle.command_reports.proofs.design_texts.bind_text.Goals as goal

pub returns-in-Err-clause-refused : goal.returns-in-Err-clause-refused
returns-in-Err-clause-refused c = λ design checked. inr (c.unbound.ensures design _ checked c.in_ok-entries.ensures.reads c.in-Err.ensures.refused)
