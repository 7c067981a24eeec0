use Rattle.std.proofs.Common.{arith}
use Rattle.bv_terms.proofs.ArenaFacts.{inputs-few}
use Rattle.bv_terms.proofs.arena.Terms.input_count.Goals as goal

pub overflow_cast-result : goal.overflow_cast-result
overflow_cast-result c =
    let e = c.self.invariant.input_count in
    let l = inputs-few c.self.inside.nodes.items in
    let s = c.self.invariant.arena.small in
    omega (arith, c.len.ensures, c.self.inside.inputs.ok.0)
