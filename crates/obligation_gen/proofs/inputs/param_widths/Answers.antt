use Rattle.std.proofs.Common.{◌≤◌, Fits, w8, arith}
use Rattle.cocoon_syntax.specs.TreeOf.{param_of}
use Rattle.obligation_gen.proofs.NewInputs.{declared_at}
use Rattle.obligation_gen.proofs.inputs.param_widths.Goals as goal

pub overflow_cast-param : goal.overflow_cast-param
overflow_cast-param c = small (declared_at param_of c.args.params.now c.loop-param.param-index c.param-item.result c.requires c.loop-param-test.true c.param-item.is)
  where
    small : c.param-item.result.width ≤ 64 → Fits w8 c.param-item.result.width
    small h = omega arith
