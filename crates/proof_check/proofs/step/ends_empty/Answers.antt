use Rattle.std.proofs.Common.{sym}
use Rattle.proof_check.proofs.Hinting.{ends-here}
use Rattle.proof_check.proofs.step.ends_empty.Goals as goal

pub returns-in-Some : goal.returns-in-Some
returns-in-Some c = ends-here c.args.steps.now c.in-Some.step.now c.items.result.now c.is_empty.result (sym c.in-Some.ensures.value) c.items.ensures c.is_empty.ensures
