use Rattle.std.proofs.Common.{arith, length, rules, subst, sym, ◌<◌, ◌≤◌}
use Rattle.std.specs.List.{All}
use Rattle.std.proofs.lemmas.List.{take_all}
use Rattle.bv_terms.specs.Arenas.{width_at}
use Rattle.bv_terms.specs.Needed.{AreNeeded}
use Rattle.bv_terms.specs.Nodes.{FitsNode}
use Rattle.obligation_tests.proofs.Made.{IsAt, fits-all, within}
use Rattle.obligation_tests.proofs.fitting.tables_fit.Goals as goal

pub node-requires : goal.node-requires
node-requires c =
    let nodes = c.args.terms.now in
    let ids = c.deref-id-items.result.now in
    let needed : AreNeeded nodes c.args.goal ids = subst (AreNeeded nodes c.args.goal) (sym c.deref-id-items.ensures.value) c.in-Ok.ensures in
    let there : c.args.goal < length nodes = search rules in
    within nodes c.args.goal ids c.loop-id.id-index needed there c.loop-id-test.true

pub returns-clause-fit : goal.returns-clause-fit
returns-clause-fit c = λ t.
    let nodes = c.args.terms.now in
    let ids = c.deref-id-items.result.now in
    let needed : AreNeeded nodes c.args.goal ids = subst (AreNeeded nodes c.args.goal) (sym c.deref-id-items.ensures.value) c.in-Ok.ensures in
    let there : c.args.goal < length nodes = search rules in
    let done : length ids ≤ c.loop-id.id-index = (let more = c.loop-id-test.false in omega (arith, more)) in
    fits-all c.args.tables.now nodes c.args.goal ids needed there (subst (All (IsAt (FitsNode c.args.tables.now (width_at nodes)) nodes)) (take_all c.loop-id.id-index ids done) c.loop-id.invariant)
