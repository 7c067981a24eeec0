use Rattle.std.proofs.Common.{◌≡◌, Some, slice_get, subst, ◌∙◌, arith}
use Rattle.bv_terms.specs.TermMaps.{IsSet}
use Rattle.bv_terms.proofs.Evaluating.{at-is, at-there, next-evaluated, next-ready, whole-evaluated}
use Rattle.bv_terms.proofs.arena.Terms.eval.Goals as goal

pub node-requires : goal.node-requires
node-requires c =
    at-there c.args.self.now c.args.env.now c.args.id c.in_ok-ids.ids.items c.loop-at.at c.loop-at.values c.index.result.now c.loop-at.invariant c.loop-at-test.true c.requires.there c.index.ensures

pub value-requires : goal.value-requires
value-requires c =
    let e = at-is c.args.self.now c.args.env.now c.args.id c.in_ok-ids.ids.items c.loop-at.at c.loop-at.values c.index.result.now c.loop-at.invariant c.loop-at-test.true c.index.ensures in
    (next-ready c.args.self.now c.args.env.now c.args.id c.in_ok-ids.ids.items c.loop-at.at c.loop-at.values c.node.result.now c.loop-at.invariant c.loop-at-test.true
    (subst (λ k. slice_get c.args.self.now k ≡ Some c.node.result.now) e c.node.ensures.node)).ready

pub loop-at-preserved : goal.loop-at-preserved
loop-at-preserved c =
    let e = at-is c.args.self.now c.args.env.now c.args.id c.in_ok-ids.ids.items c.loop-at.at c.loop-at.values c.index.result.now c.loop-at.invariant c.loop-at-test.true c.index.ensures in
    let f = at-is c.args.self.now c.args.env.now c.args.id c.in_ok-ids.ids.items c.loop-at.at c.loop-at.values c.index-in-loop-at.result.now c.loop-at.invariant c.loop-at-test.true c.index-in-loop-at.ensures in
    next-evaluated c.args.self.now c.args.env.now c.args.id c.in_ok-ids.ids.items c.loop-at.at c.loop-at.values c.set.new.self c.node.result.now c.in_ok-value.value c.loop-at.invariant
    c.loop-at-test.true (subst (λ k. slice_get c.args.self.now k ≡ Some c.node.result.now) e c.node.ensures.node) c.in_ok-value.ensures
    (subst (λ k. IsSet c.loop-at.values c.set.new.self k c.in_ok-value.value) f c.in_ok-set.ensures)

pub returns : goal.returns
returns c =
    c.part.ensures.value
    ∙ (whole-evaluated c.args.self.now c.args.env.now c.args.id c.in_ok-ids.ids.items c.loop-at.at c.loop-at.values c.loop-at.invariant (let l = c.loop-at-test.false in omega arith)).is
