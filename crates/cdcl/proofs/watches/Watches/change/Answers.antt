use Rattle.std.proofs.Common.{subst, sym}
use Rattle.cdcl.specs.Watching.{IsListed, list_of}
use Rattle.cdcl.proofs.Watched.{listed-changed, listed-here}
use Rattle.cdcl.proofs.watches.Watches.change.Goals as goal

pub returns-clause-kept : goal.returns-clause-kept
returns-clause-kept c = listed-changed c.args.self.now c.take_out-number.new.self c.put.new.self c.args.from.number c.args.pair.second.number c.args.at c.take_out-number.result
    c.take_out-number.ensures.there c.take_out-number.ensures.others c.in_ok-put.ensures.there c.put.ensures.others

pub returns-clause-listed : goal.returns-clause-listed
returns-clause-listed c = subst (IsListed (list_of c.put.new.self c.args.pair.second.number) 0) (sym c.take_out-number.ensures.number)
    (listed-here c.take_out-number.new.self c.put.new.self c.args.pair.second.number c.take_out-number.result c.in_ok-put.ensures.there c.put.ensures.others)
