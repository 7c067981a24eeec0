use Rattle.std.proofs.Common.{subst, sym}
use Rattle.solver_tests.specs.Plain.{CoversNode, HasNumber}
use Rattle.solver_tests.proofs.evaluating.covers_node.Goals as goal

pub returns-in-Input : goal.returns-in-Input
returns-in-Input c = λ same.
    subst (CoversNode c.args.env.now) (sym c.in-Input.is)
    (subst (λ numbers. HasNumber numbers c.in-Input.input c.in-Input.width) c.items.ensures (c.has_width.ensures same))
