use Rattle.std.proofs.Common.{subst, sym}
use Rattle.bv_terms.specs.Arenas.{width_at}
use Rattle.obligation_tests.specs.Plain.{CoversNode, HasNumber}
use Rattle.obligation_tests.proofs.fitting.covers_node.Goals as goal

pub returns-in-Input : goal.returns-in-Input
returns-in-Input c = λ same.
    subst (CoversNode c.args.env.now (width_at c.args.terms.now)) (sym c.in-Input.is)
    (subst (λ numbers. HasNumber numbers c.in-Input.input c.in-Input.width) c.items.ensures (c.has_input.ensures same))
