use Rattle.refinement.proofs.Bodies.{sent_when_tried}
use Rattle.refinement.proofs.Named.{roles_named}
use Rattle.refinement.proofs.sending_laws.tried_choices_send.Goals as goal

pub returns : goal.returns
returns c = λ text d tables reads has level from to packet sent r body at is back fits can.
    let typed = c.declarations_are_typed.ensures.roles d has.rules has.literals level from.role r at in
    sent_when_tried d tables level (c.expressions_have_values.ensures.by_tables d tables has level) from to packet sent r body at is (typed.body body is)
    (c.statements_differ.ensures text d reads level from.role r at body is) (roles_named text d reads level from.role r at) back fits can.0 can.1
