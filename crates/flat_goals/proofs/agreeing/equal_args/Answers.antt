use Rattle.std.proofs.lemmas.List.Elements.{recursion_from_All}
use Rattle.std.proofs.Common.{◌<◌, length}
use Rattle.flat_goals.proofs.Equals.{compare-step, same-widths}
use Rattle.flat_goals.proofs.agreeing.equal_args.Goals as goal

pub joined-requires-in-loop-at-clause-widths : goal.joined-requires-in-loop-at-clause-widths
joined-requires-in-loop-at-clause-widths c =
    same-widths c.args.terms.now c.args.args.now c.args.others.now (recursion_from_All (λ k. k < length c.args.terms.now) c.args.args.now c.requires.args)
    (recursion_from_All (λ k. k < length c.args.terms.now) c.args.others.now c.requires.others) c.requires.widths c.loop-at.terms c.loop-at.all c.loop-at.at c.loop-at.invariant c.loop-at-test.true

pub loop-at-preserved : goal.loop-at-preserved
loop-at-preserved c =
    compare-step c.args.terms.now c.args.args.now c.args.others.now (recursion_from_All (λ k. k < length c.args.terms.now) c.args.args.now c.requires.args)
    (recursion_from_All (λ k. k < length c.args.terms.now) c.args.others.now c.requires.others) c.requires.widths c.loop-at.terms c.loop-at.all c.loop-at.at c.loop-at.invariant c.loop-at-test.true
    c.joined-in-loop-at.new.terms c.joined-in-loop-at-2.new.terms c.in_ok-next.next c.in_ok-all-2.all c.joined-in-loop-at.ensures.grown c.joined-in-loop-at-2.ensures.grown
    c.in_ok-next.ensures.made c.in_ok-all-2.ensures.made
