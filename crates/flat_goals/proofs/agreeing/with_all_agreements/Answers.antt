use Rattle.flat_goals.proofs.Agreements.{can-now, read-all-step, read-pairs}
use Rattle.flat_goals.proofs.agreeing.with_all_agreements.Goals as goal

pub with_agreements-requires-clause-agree : goal.with_agreements-requires-clause-agree
with_agreements-requires-clause-agree c = can-now c.args.terms.now c.args.taken.now c.requires.agree c.loop-place.terms c.loop-place.invariant.grown

pub with_agreements-requires-clause-earlier : goal.with_agreements-requires-clause-earlier
with_agreements-requires-clause-earlier c =
    read-pairs c.args.terms.now c.args.taken.now c.requires.agree c.loop-place.terms c.args.goal c.loop-place.groups c.loop-place.place c.loop-place.all c.loop-place.invariant c.loop-place-test.true
    c.index-taken-place.result c.index-taken-place.is c.of.result.now c.of.ensures

pub loop-place-preserved : goal.loop-place-preserved
loop-place-preserved c =
    read-all-step c.args.terms.now c.args.taken.now c.requires.agree c.loop-place.terms c.args.goal c.loop-place.groups c.loop-place.place c.loop-place.all c.loop-place.invariant c.loop-place-test.true
    c.index-taken-place.result c.index-taken-place.is c.of.result.now c.of.ensures c.with_agreements.new.terms c.add.new.self c.in_ok-all.all c.with_agreements.ensures.grown
    c.in_ok-all.ensures.made c.in_ok-add.ensures
