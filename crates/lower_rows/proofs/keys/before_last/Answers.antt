use Rattle.std.proofs.Common.{sym, ap, ◌∙◌}
use Rattle.lowering_correct.specs.Groups.{before_last}
use Rattle.lower_rows.proofs.Ends.{before-last-is}
use Rattle.lower_rows.proofs.keys.before_last.Goals as goal

pub returns-in-Some : goal.returns-in-Some
returns-in-Some c = before-last-is c.in-Some.before.now c.in-Some.field-0-0.now ∙ ap before_last (sym c.in-Some.ensures.cases.0)
