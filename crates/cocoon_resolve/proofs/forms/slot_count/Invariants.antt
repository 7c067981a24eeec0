use Rattle.std.proofs.Common.{◌≡◌, map, drop}
use Rattle.cocoon_syntax.specs.TreeOf.{param_of}
use Rattle.cocoon_resolve.specs.Forms.{slot_weight}
use Rattle.cocoon_resolve.proofs.forms.slot_count.Given as goal

abbrev pub invariant-loop-param : goal.invariant-loop-param
invariant-loop-param l = slot_weight (map param_of (drop l.param-index l.params)) l.left l.name ≡ slot_weight (map param_of l.params) l.fn.slot l.name
