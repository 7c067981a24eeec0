use Rattle.std.proofs.Common.{◌≤◌, Fits, w8, arith}
use Rattle.cocoon_syntax.specs.TreeOf.{param_of}
use Rattle.cocoon_resolve.proofs.Widths.{declared-at}
use Rattle.cocoon_resolve.proofs.layout.append_fields.Goals as goal

pub overflow_cast-field : goal.overflow_cast-field
overflow_cast-field c = small (declared-at param_of c.args.fields.now c.loop-field.field-index c.field-item.result c.requires c.loop-field-test.true c.field-item.is)
  where
    small : c.field-item.result.width ≤ 64 → Fits w8 c.field-item.result.width
    small h = omega arith
