use Rattle.std.proofs.Common.{◌*◌, length, map, reverse}
use Rattle.cocoon_syntax.specs.TreeOf.{param_of}
use Rattle.cocoon_resolve.specs.Forms.{known_weight, slot_weight, own_nodes, times, form_of}
use Rattle.cocoon_resolve.proofs.Steps.{argument_step, call_whole}
use Rattle.cocoon_resolve.proofs.nodes.+weigh.Goals as goal

pub weigh_call-loop-index-preserved : goal.weigh_call-loop-index-preserved
weigh_call-loop-index-preserved t c = argument_step (c.args.counting.now.one * own_nodes (form_of c.args.form.now) (length c.args.args.now)) c.args.counting.now.one (times (form_of c.args.form.now)) (known_weight c.args.counting.now.one (reverse c.args.counting.now.known.now)) (slot_weight (map param_of c.args.counting.now.params.now) c.args.counting.now.slot) c.args.args.now c.loop-index.index c.index-args-index.result _ _ _ _ _ c.loop-index-test.true c.index-args-index.is c.loop-index.invariant c.weigh.ensures c.times.ensures c.saturating_mul.ensures c.saturating_add-sum.ensures

pub weigh_call-returns : goal.weigh_call-returns
weigh_call-returns t c = call_whole c.args.counting.now.one (form_of c.args.form.now) (known_weight c.args.counting.now.one (reverse c.args.counting.now.known.now)) (slot_weight (map param_of c.args.counting.now.params.now) c.args.counting.now.slot) c.args.args.now c.loop-index.index _ c.loop-index-test.false c.loop-index.invariant
