use Rattle.std.proofs.Common.{◌≡◌, arith, length}
use Rattle.cdcl.proofs.Watched.{listed-added, listed-put}
use Rattle.cdcl.proofs.watches.Watches.add.Goals as goal

pub returns-clause-kept : goal.returns-clause-kept
returns-clause-kept c = λ l first k h. listed-put c.put.new.self c.put-2.new.self c.args.pair.second.number c.len-number.result c.in_ok-put-2.ensures.there c.put-2.ensures.others l first k
    (listed-put c.args.self.now c.put.new.self c.args.pair.first.number c.len-number.result c.in_ok-put.ensures.there c.put.ensures.others l first k h)

pub returns-clause-listed : goal.returns-clause-listed
returns-clause-listed c =
    let is : c.len-number.result ≡ length c.args.self.now.pairs.items = omega (arith, c.len-number.ensures, c.args.self.now.pairs.ok.0) in
    listed-added c.args.self.now c.put.new.self c.put-2.new.self c.args.pair c.len-number.result (length c.args.self.now.pairs.items) is
    c.in_ok-put.ensures.there c.put.ensures.others c.in_ok-put-2.ensures.there c.put-2.ensures.others
