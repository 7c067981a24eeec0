use Rattle.std.proofs.Common.{◌≡◌, ◌+◌, length, ap, arith, length-append, ◌∷◌, []}
use Rattle.bit_blast.proofs.BitSteps.{constant-more}
use Rattle.bit_blast.proofs.parts.constant_bits.Goals as goal

pub loop-bits-preserved : goal.loop-bits-preserved
loop-bits-preserved c =
    let l = c.loop-bits-test.true in
    let e = c.len.ensures in
    let k = c.loop-bits.bits.ok.0 in
    let j : length c.push.new.self.items ≡ length c.loop-bits.bits.items + 1
    = omega (arith, ap length c.in_ok-push.ensures.items, length-append c.loop-bits.bits.items (c.constant.result ∷ [])) in
    record {
      within = omega arith;
      made = constant-more c.loop-bits.bits.items c.push.new.self.items c.args.width (length c.loop-bits.bits.items) (length c.push.new.self.items) c.loop-bits.rest _ c.constant.result
          (omega arith) j c.in_ok-push.ensures.items c.loop-bits.invariant.made c.constant.ensures;
    }
