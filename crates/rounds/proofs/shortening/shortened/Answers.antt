use Rattle.bv_terms.proofs.ReplaceFacts.{keeps-both}
use Rattle.rounds.proofs.Parts.{first-part, part-kept, second-part}
use Rattle.rounds.proofs.shortening.shortened.Goals as goal

pub with_part-requires-clause-part : goal.with_part-requires-clause-part
with_part-requires-clause-part c = second-part c.loop.terms c.operands.ensures.arena c.loop.rest c.in-Some.before c.in-Some.last c.loop.invariant.rest c.in-Some.ensures.node

pub loop-preserved : goal.loop-preserved
loop-preserved c = record {
  kept = keeps-both c.args.terms.now c.loop.terms c.with_part.new.terms c.loop.invariant.kept c.in_ok-short.ensures.kept;
  short = c.in_ok-short.ensures.made;
  rest = part-kept c.loop.terms c.with_part.new.terms c.in_ok-short.ensures.kept c.in-Some.before
      (first-part c.loop.terms c.operands.ensures.arena c.loop.rest c.in-Some.before c.in-Some.last c.loop.invariant.rest c.in-Some.ensures.node);
}
