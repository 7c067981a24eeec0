use Rattle.std.proofs.Common.{◌≤◌, arith, length, refl, subst}
use Rattle.obligation_gen.specs.Joined.{joined_of}
use Rattle.obligation_gen.proofs.Joining.{at_end}
use Rattle.obligation_gen.proofs.sizes.joined_terms.Goals as goal

pub returns : goal.returns
returns c =
    let leaves = c.args.tree.now.leaves in
    let items = c.items-leaf-items.result.now in
    let over : length items ≤ c.loop-leaf.leaf-index = (let more = c.loop-leaf-test.false in omega (arith, more)) in
    let done : length leaves ≤ c.loop-leaf.leaf-index = subst (λ ls. length ls ≤ c.loop-leaf.leaf-index) c.items-leaf-items.ensures over in
    at_end (joined_of c.args.old.now.leaves) leaves c.loop-leaf.leaf-index c.loop-leaf.joined refl done c.loop-leaf.invariant.fits c.loop-leaf.invariant.rest
