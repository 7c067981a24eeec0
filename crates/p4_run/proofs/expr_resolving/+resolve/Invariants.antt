use Rattle.p4_ir.specs.Program.{expr_of}
use Rattle.p4_run.proofs.ExprSizes.{expr_size}
use Rattle.p4_run.proofs.expr_resolving.+resolve.Given as goal

abbrev pub decreases-resolved : goal.decreases-resolved
decreases-resolved l = expr_size (expr_of l.expr.now)
