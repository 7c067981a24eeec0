use Rattle.std.proofs.Common.{sym, ap, ◌∙◌}
use Rattle.lowering_correct.specs.Groups.{last_of}
use Rattle.lower_rows.proofs.Ends.{last-is}
use Rattle.lower_rows.proofs.keys.last.Goals as goal

pub returns-in-Some : goal.returns-in-Some
returns-in-Some c = last-is c.in-Some.field-0-1.now c.in-Some.last.now ∙ ap last_of (sym c.in-Some.ensures.cases.0)
