use Rattle.step_cases.proofs.Widths.{uneven}
use Rattle.step_cases.proofs.fit.fields_fit.Goals as goal

pub returns-then-widths-fields : goal.returns-then-widths-fields
returns-then-widths-fields c = uneven c.args.widths.now c.args.fields.now c.if-widths-fields.true
