use Rattle.std.proofs.Common.{◌∙◌}
use Rattle.command_line.proofs.Matching.{taken, not_taken}
use Rattle.command_line.proofs.parse.matches.Goals as goal

pub returns-in-Ok : goal.returns-in-Ok
returns-in-Ok c = taken _ _ c.in-Ok.matches c.in_ok-app.ensures c.in-Ok.ensures.matches c.in-Ok.ensures.kinds

pub returns : goal.returns
returns c = not_taken _ _ c.in-Err.error c.in_ok-app.ensures c.in-Err.ensures.kinds (λ memory. c.in_default.not-OutOfMemory (c.kind.ensures ∙ memory))
