use Rattle.std.proofs.Common.{◌≡◌, IsTrue, length, arith, rules}
use Rattle.net_wiring.proofs.ItemByItem.{more-same, shorter}
use Rattle.net_wiring.proofs.lists.first_difference.Goals as goal

pub loop-index-preserved : goal.loop-index-preserved
loop-index-preserved g c =
    let is : IsTrue c.is_same.result = search rules in
    record {
      within = omega arith;
      same = more-same g.T.Compared.meaning c.loop-index.index c.args.old.now c.args.new.now c.index-old-index.result c.index-new-index.result c.loop-index-test.true (omega arith) c.index-old-index.is c.index-new-index.is
          (c.is_same.ensures.0 is) c.loop-index.invariant.same;
    }

pub returns-then-old-new-clause-first : goal.returns-then-old-new-clause-first
returns-then-old-new-clause-first g c =
    let end : length c.args.old.now ≡ c.loop-index.index = omega arith in
    shorter g.T.Compared.meaning c.loop-index.index c.args.old.now c.args.new.now end c.if-old-new.true c.loop-index.invariant.same
