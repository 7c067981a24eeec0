use Rattle.std.proofs.Common.{◌≡◌, slice_index, rules, subst, arith}
use Rattle.std.proofs.lemmas.Option.{slice_get-get_or}
use Rattle.bv_terms.specs.Arenas.{inputs_in, term_at}
use Rattle.bv_terms.specs.Rebuilt.{name_in}
use Rattle.bv_terms.specs.Walks.{applications}
use Rattle.flat_laws.specs.Flat.{reduced}
use Rattle.bv_terms.specs.Growth.{IsMade}
use Rattle.flat_goals.proofs.Reductions.{goal-made, own-can, own-step}
use Rattle.flat_goals.proofs.reducing.reduce.Goals as goal

pub reduce_node-requires : goal.reduce_node-requires
reduce_node-requires c =
    let order = c.deref-own-items.result.now in
    let i = c.loop-own.own-index in
    own-can c.args.terms.now c.args.goal order c.loop-own.terms i c.loop-own.ids c.loop-own.applications.items c.loop-own.invariant
    (slice_index order i) (slice_get-get_or order i 0 c.loop-own-test.true) c.width.result c.node.result.now c.in_ok-node.node c.node.ensures.node c.in_ok-node.ensures c.width.ensures

pub loop-own-preserved : goal.loop-own-preserved
loop-own-preserved c =
    let order = c.deref-own-items.result.now in
    let i = c.loop-own.own-index in
    own-step c.args.terms.now c.args.goal order c.loop-own.terms i c.loop-own.ids c.loop-own.applications.items c.loop-own.invariant
    (slice_index order i) (slice_get-get_or order i 0 c.loop-own-test.true) c.reduce_node.new.terms c.in_ok-id.id c.set.new.self c.node.result.now c.in_ok-node.node
    c.reduce_node.new.applications.items c.node.ensures.node c.in_ok-node.ensures c.reduce_node.ensures.kept c.in_ok-id.ensures.reduced c.in_ok-id.ensures.listed c.in_ok-set.ensures

pub returns-clause-goal : goal.returns-clause-goal
returns-clause-goal c =
    let is : name_in c.loop-own.ids c.args.goal ≡ c.unwrap_or.result = search rules in
    subst (IsMade c.loop-own.terms (reduced (applications (term_at c.args.terms.now c.args.goal)) (inputs_in c.args.terms.now) (term_at c.args.terms.now c.args.goal))) is
    (goal-made c.args.terms.now c.args.goal c.deref-own-items.result.now c.loop-own.terms c.loop-own.own-index c.loop-own.ids c.loop-own.applications.items c.loop-own.invariant
    (omega (arith, c.loop-own-test.false)))
