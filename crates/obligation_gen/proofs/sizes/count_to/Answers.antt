use Rattle.std.proofs.Common.{◌≤◌, arith, length, refl}
use Rattle.obligation_gen.specs.Joined.{count_to}
use Rattle.obligation_gen.proofs.Joining.{at_end}
use Rattle.obligation_gen.proofs.sizes.count_to.Goals as goal

pub returns : goal.returns
returns c =
    let leaves = c.args.leaves.now in
    let done : length leaves ≤ c.loop-leaf.leaf-index = (let more = c.loop-leaf-test.false in omega (arith, more)) in
    at_end (count_to c.args.to) leaves c.loop-leaf.leaf-index c.loop-leaf.count refl done c.loop-leaf.invariant.fits c.loop-leaf.invariant.rest
