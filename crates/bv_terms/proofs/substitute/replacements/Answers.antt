use Rattle.std.proofs.Common.{arith}
use Rattle.bv_terms.proofs.ReplaceFacts.{table-step}
use Rattle.bv_terms.proofs.substitute.replacements.Goals as goal

pub loop-at-preserved : goal.loop-at-preserved
loop-at-preserved c = record {
  within = (let w = c.loop-at.invariant.within in omega arith);
  held = table-step c.args.from.now c.args.to.now c.loop-at.table c.insert.new.self c.loop-at.at c.requires c.loop-at-test.true c.loop-at.invariant.within
      c.loop-at.invariant.held c.in_ok-insert.ensures.updates;
}
