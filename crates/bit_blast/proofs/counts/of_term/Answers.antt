use Rattle.std.proofs.Common.{sym, subst, ◌≤◌}
use Rattle.bit_blast.proofs.CountFacts.{operand, second}
use Rattle.bit_blast.proofs.counts.of_term.Goals as goal

pub width-requires : goal.width-requires
width-requires c =
    (operand c.args.terms.now c.args.term c.in-Binary.op c.in-Binary.a c.in-Binary.field-2 c.node.result.now c.node.ensures.arena c.node.ensures.node c.in-Binary.is).0

pub of_operator-requires : goal.of_operator-requires
of_operator-requires c =
    subst (λ w. 1 ≤ w) (sym c.width.ensures)
    (operand c.args.terms.now c.args.term c.in-Binary.op c.in-Binary.a c.in-Binary.field-2 c.node.result.now c.node.ensures.arena c.node.ensures.node c.in-Binary.is).1

pub width-requires-in-Pick : goal.width-requires-in-Pick
width-requires-in-Pick c =
    second c.args.terms.now c.args.term c.in-Pick.field-0 c.in-Pick.a c.in-Pick.field-2 c.node.result.now c.node.ensures.arena c.node.ensures.node c.in-Pick.is
