use Rattle.std.proofs.Common.{◌≡◌, map, reverse}
use Rattle.cocoon_syntax.specs.TreeOf.{expr_of, param_of}
use Rattle.cocoon_types.specs.Limits.{reported}
use Rattle.cocoon_resolve.specs.Forms.{weight, known_weight, slot_weight, table}
use Rattle.cocoon_resolve.proofs.functions.form_of_body.Given as goal

abbrev pub invariant-loop-slot : goal.invariant-loop-slot
invariant-loop-slot l = l.uses.items ≡ table (λ i. reported (weight 0 (known_weight 0 (reverse l.known)) (slot_weight (map param_of l.params) i) (expr_of l.body))) l.slot
