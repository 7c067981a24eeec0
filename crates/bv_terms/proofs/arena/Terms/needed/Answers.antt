use Rattle.bv_terms.specs.Arenas.{parts}
use Rattle.bv_terms.proofs.Members.{none-left}
use Rattle.bv_terms.proofs.NeededFacts.{needed-all, needed-first, needed-smaller, needed-step, taken}
use Rattle.bv_terms.proofs.arena.Terms.needed.Goals as goal

pub loop-next-init : goal.loop-next-init
loop-next-init c =
    needed-first c.args.self.now c.args.id c.new-ids.result.items c.new-waiting.result c.insert.new.self c.count-terms.ensures.arena c.requires c.new-ids.ensures.items
    c.new-waiting.ensures.empty c.in_ok-insert.ensures.updates

pub loop-next-smaller : goal.loop-next-smaller
loop-next-smaller c =
    needed-smaller c.args.self.now c.args.id c.loop-next.ids.items c.push.new.self.items c.loop-next.waiting c.in-Some.next c.loop-next.invariant c.in-Some.ensures.member
    c.in_ok-push.ensures.items

pub loop-next-preserved : goal.loop-next-preserved
loop-next-preserved c =
    needed-step c.args.self.now c.args.id c.loop-next.ids.items c.push.new.self.items c.loop-next.waiting c.await_parts.new.waiting c.in-Some.next c.node.result.now
    c.loop-next.invariant c.node.ensures.node
    (taken c.loop-next.waiting c.pop_last.new.self c.await_parts.new.waiting c.in-Some.next (parts c.node.result.now) c.in-Some.ensures.member c.in-Some.ensures.greatest
    c.in-Some.ensures.updates c.in_ok-await_parts.ensures) c.in_ok-push.ensures.items

pub returns : goal.returns
returns c =
    needed-all c.args.self.now c.args.id c.loop-next.ids.items c.loop-next.waiting c.loop-next.invariant
    (none-left c.pop_last.result c.loop-next.waiting.keys c.in_default.is c.pop_last.ensures.variant)
