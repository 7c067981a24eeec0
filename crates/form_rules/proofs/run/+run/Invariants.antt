use Rattle.std.proofs.Common.{drop}
use Rattle.form_rules.proofs.Running.{Followed}
use Rattle.form_rules.proofs.run.+run.Given as goal

abbrev pub invariant-run_steps-loop-step : goal.invariant-run_steps-loop-step
invariant-run_steps-loop-step l = Followed l.choice (drop l.step-index l.steps) l.steps l.fn.states.items l.reached
