use Rattle.runtime_defs.proofs.Zips.{zip-pushed}
use Rattle.candidates.specs.Applying.{IsLookup}
use Rattle.candidates.proofs.applying.lookups.Goals as goal

pub loop-one-preserved : goal.loop-one-preserved
loop-one-preserved c =
    zip-pushed (IsLookup c.args.terms.now c.args.env.now) c.args.applied.now c.loop-one.lookups.items c.push.new.self.items c.loop-one.one-index c.one-item.result c.in_ok-lookup.field-0
    c.loop-one-test.true c.one-item.is c.loop-one.invariant c.in_ok-lookup.ensures c.in_ok-push.ensures.items
