use Rattle.refinement.proofs.Named.{roles_named}
use Rattle.obligation_laws.proofs.Reading.{tree_reads}
use Rattle.obligation_laws.proofs.read_back_laws.leaves_read_back.Goals as goal

pub returns : goal.returns
returns c = λ text d reads w l level role r is back first.
    tree_reads d level role first r is (c.declarations_are_typed.ensures.roles d w l level role r is) (roles_named text d reads level role r is) back
    (c.statements_differ.ensures text d reads level role r is)
