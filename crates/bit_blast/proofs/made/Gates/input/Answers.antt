use Rattle.std.proofs.Common.{◌≡◌, ◌+◌, length, ap, arith, length-append, ◌∷◌, []}
use Rattle.bit_blast.specs.Emitted.{numbers}
use Rattle.bit_blast.proofs.BitSteps.{numbers-push, fresh-step}
use Rattle.bit_blast.proofs.made.Gates.input.Goals as goal

pub loop-bits-preserved : goal.loop-bits-preserved
loop-bits-preserved c =
    let l = c.loop-bits-test.true in
    let e = c.len.ensures in
    let k = c.loop-bits.bits.ok.0 in
    let j : length c.push.new.self.items ≡ length c.loop-bits.bits.items + 1
    = omega (arith, ap length c.in_ok-push.ensures.items, length-append c.loop-bits.bits.items (c.in_ok-fresh.field-0 ∷ [])) in
    fresh-step c.args.self.now c.loop-bits.self c.fresh.new.self c.args.width (length c.loop-bits.bits.items) (length c.push.new.self.items) (numbers c.loop-bits.bits.items)
    (numbers c.push.new.self.items) c.in_ok-fresh.field-0.number (omega arith) j c.loop-bits.invariant c.in_ok-fresh.ensures
    (numbers-push c.loop-bits.bits.items c.push.new.self.items c.in_ok-fresh.field-0 c.in_ok-push.ensures.items)
