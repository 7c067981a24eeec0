use Rattle.std.proofs.Common.{ap, ◌∙◌}
use Rattle.bit_blast.specs.Clauses.{first_bit}
use Rattle.bit_blast.proofs.Emitting.{goal-some, numbers-some, walk-order, whole-clauses}
use Rattle.bit_blast.proofs.InputFacts.{can-map, maps-inputs}
use Rattle.bit_blast.proofs.emit.assemble.Goals as goal
use Rattle.std.proofs.Common.{length}

pub emit-requires : goal.emit-requires
emit-requires c = walk-order c.args.terms.now c.args.goal c.args.order.now c.requires

pub new-requires : goal.new-requires
new-requires c = can-map c.args.terms.now c.args.goal c.args.order.now c.in_ok-gates.gates c.in_ok-gates.table c.requires c.in_ok-gates.ensures

pub first-bit-requires : goal.first-bit-requires
first-bit-requires c =
    numbers-some c.bits.result.now (ap length c.bits.ensures ∙ goal-some c.args.terms.now c.args.goal c.args.order.now c.in_ok-gates.gates c.in_ok-gates.table c.requires c.in_ok-gates.ensures)

pub returns-clause-clauses : goal.returns-clause-clauses
returns-clause-clauses c =
    whole-clauses c.args.terms.now c.args.goal c.args.order.now c.in_ok-gates.gates c.in_ok-gates.table c.requires c.in_ok-gates.ensures c.add.new.self c.first-bit.result.number
    c.into_cnf.result (c.first-bit.ensures ∙ ap first_bit c.bits.ensures) c.in_ok-add.ensures.listed c.in_ok-add.ensures.next c.into_cnf.ensures.clauses c.into_cnf.ensures.vars

pub returns-clause-inputs : goal.returns-clause-inputs
returns-clause-inputs c =
    maps-inputs c.args.terms.now c.args.goal c.args.order.now c.in_ok-gates.gates c.in_ok-gates.table c.requires c.in_ok-gates.ensures c.in_ok-inputs.inputs c.in_ok-inputs.ensures
