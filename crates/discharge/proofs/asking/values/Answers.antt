use Rattle.std.proofs.Common.{◌<◌, length, rules}
use Rattle.cnf_core.specs.Satisfying.{makes_true}
use Rattle.bit_blast.specs.Blasting.{InputRow}
use Rattle.bit_blast.specs.Readings.{number_read}
use Rattle.discharge.proofs.Inputs.{value_more}
use Rattle.discharge.proofs.asking.values.Goals as goal

pub loop-input-preserved : goal.loop-input-preserved
loop-input-preserved c =
    let here : c.loop-input.input < length c.args.inputs.now = search rules in
    value_more (λ (row : InputRow). number_read (makes_true c.args.assignment.now) row.bits) c.args.inputs.now c.loop-input.input here c.loop-input.values.items c.push.new.self.items c.value.result
    c.loop-input.invariant c.in_ok-push.ensures.items c.value.ensures
