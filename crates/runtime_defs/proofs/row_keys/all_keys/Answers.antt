use Rattle.runtime_defs.specs.RowKeys.{MayBeKeyed}
use Rattle.runtime_defs.proofs.Zips.{zip-pushed}
use Rattle.runtime_defs.proofs.row_keys.all_keys.Goals as goal

pub loop-place-preserved : goal.loop-place-preserved
loop-place-preserved c = zip-pushed MayBeKeyed c.args.tables.now c.loop-place.keys.items c.push.new.self.items c.loop-place.place-index c.place-item.result c.in_ok-place_keys.field-0
    c.loop-place-test.true c.place-item.is c.loop-place.invariant c.in_ok-place_keys.ensures c.in_ok-push.ensures.items
