use Rattle.std.proofs.Common.{◌≡◌, ◌<◌, length, arith, rules}
use Rattle.bv_terms.specs.Arenas.{width_at}
use Rattle.solver_tests.proofs.Alike.{applied-alike}
use Rattle.solver_tests.proofs.flattening.can_be_flat.Goals as goal

pub returns-then-width-eq1 : goal.returns-then-width-eq1
returns-then-width-eq1 c = λ h.
    let there : c.args.term < length c.args.terms.now = omega (arith, c.if-term-count.false, c.count.ensures.count) in
    let narrow : width_at c.args.terms.now c.args.term ≡ 1 = search rules in
    (there, narrow, applied-alike c.args.terms.now c.args.term c.count.ensures.arena there (c.are_all_alike.ensures h))
