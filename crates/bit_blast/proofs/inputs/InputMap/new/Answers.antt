use Rattle.bit_blast.proofs.InputFacts.{map-push}
use Rattle.bit_blast.proofs.inputs.InputMap.new.Goals as goal

pub loop-input-preserved : goal.loop-input-preserved
loop-input-preserved c =
    map-push c.args.terms.now c.args.table.now c.loop-input.input c.loop-input.inputs.items c.push.new.self.items c.in_ok-of.field-0 c.in_ok-push.ensures.items c.in_ok-of.ensures
    c.loop-input.invariant
