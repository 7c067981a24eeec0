use Rattle.std.proofs.Common.{subst}
use Rattle.std.specs.Option.{IfSome}
use Rattle.bv_terms.proofs.ReplaceFacts.{keeps-both}
use Rattle.rounds.specs.Short.{IsMapped}
use Rattle.rounds.proofs.Guesses.{readable}
use Rattle.rounds.proofs.Parts.{part-kept}
use Rattle.rounds.proofs.guessing.near.Goals as goal

pub put_back_false-requires : goal.put_back_false-requires
put_back_false-requires c =
    let terms = c.shortened.new.terms in
    let mapped = subst (λ o. IfSome o (λ f. IsMapped terms f.0)) c.in-Some.is c.in_ok-inputs.ensures in
    readable terms c.in-Some.inputs c.in-Some.assignment mapped c.count-count.ensures.arena c.in_ok-env.env c.in_ok-env.ensures c.args.goal
    (part-kept c.loop.terms terms c.in_ok-short.ensures.kept c.args.goal c.loop.invariant.goal)

pub loop-preserved : goal.loop-preserved
loop-preserved c =
    let terms = c.shortened.new.terms in
    let kept = c.in_ok-short.ensures.kept in
    record {
      kept = keeps-both c.args.terms.now c.loop.terms terms c.loop.invariant.kept kept;
      goal = part-kept c.loop.terms terms kept c.args.goal c.loop.invariant.goal;
      pins = part-kept c.loop.terms terms kept c.in_ok-pins.pins c.loop.invariant.pins;
    }
