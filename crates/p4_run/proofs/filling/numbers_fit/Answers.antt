use Rattle.std.proofs.Common.{sym}
use Rattle.p4_run.proofs.FitFacts.{fit_false}
use Rattle.p4_run.proofs.filling.numbers_fit.Goals as goal

pub returns-then-widths-numbers : goal.returns-then-widths-numbers
returns-then-widths-numbers c = sym (fit_false c.args.widths.now c.args.numbers.now (λ e. c.if-widths-numbers.true e))
