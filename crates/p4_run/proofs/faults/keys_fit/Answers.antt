use Rattle.std.proofs.Common.{sym}
use Rattle.p4_ir.specs.Program.{program_of}
use Rattle.p4_run.proofs.FaultSteps.{masks_counted, values_counted}
use Rattle.p4_run.proofs.faults.keys_fit.Goals as goal

pub returns-then-values-keys : goal.returns-then-values-keys
returns-then-values-keys c = sym (values_counted (program_of c.args.program.now) c.args.exact c.args.keys.now c.args.values.now c.args.masks.now (λ e. c.if-values-keys.true e))

pub returns-then-masks-keys : goal.returns-then-masks-keys
returns-then-masks-keys c = sym (masks_counted (program_of c.args.program.now) c.args.exact c.args.keys.now c.args.values.now c.args.masks.now (λ e. c.if-masks-keys.true e))
