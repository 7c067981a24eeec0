use Rattle.bv_terms.specs.Arenas.{parts}
use Rattle.bv_terms.proofs.Members.{await-more}
use Rattle.bv_terms.proofs.needed.await_parts.Goals as goal

pub loop-place-preserved : goal.loop-place-preserved
loop-place-preserved c =
    await-more c.args.waiting.now c.loop-place.waiting c.insert.new.self (parts c.args.node.now) c.loop-place.place c.part.result c.part.ensures c.loop-place.invariant c.in_ok-insert.ensures.updates
