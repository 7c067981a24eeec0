use Rattle.std.proofs.Common.{◌≡◌, ◌+◌, ◌*◌, map, take, length, reverse}
use Rattle.cocoon_syntax.specs.TreeOf.{expr_of, exprs_of, param_of}
use Rattle.cocoon_types.specs.Limits.{reported}
use Rattle.cocoon_resolve.specs.Forms.{weights, known_weight, slot_weight, own_nodes, each_times, times, form_of}
use Rattle.cocoon_resolve.proofs.nodes.+weigh.Given as goal

abbrev pub invariant-weigh_call-loop-index : goal.invariant-weigh_call-loop-index
invariant-weigh_call-loop-index l =
    l.sum ≡ reported (l.counting.one * own_nodes (form_of l.form) (length l.args) + each_times (times (form_of l.form))
    (weights l.counting.one (known_weight l.counting.one (reverse l.counting.known.now)) (slot_weight (map param_of l.counting.params.now) l.counting.slot) (exprs_of (map expr_of (take l.index l.args)))))
