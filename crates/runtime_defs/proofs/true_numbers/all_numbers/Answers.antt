use Rattle.runtime_defs.specs.TrueRows.{IsListed}
use Rattle.runtime_defs.proofs.Zips.{zip-pushed}
use Rattle.runtime_defs.proofs.true_numbers.all_numbers.Goals as goal

pub loop-place-preserved : goal.loop-place-preserved
loop-place-preserved c = zip-pushed IsListed c.args.tables.now c.loop-place.numbers.items c.push.new.self.items c.loop-place.place-index c.place-item.result c.in_ok-of.field-0
    c.loop-place-test.true c.place-item.is c.loop-place.invariant c.in_ok-of.ensures c.in_ok-push.ensures.items
