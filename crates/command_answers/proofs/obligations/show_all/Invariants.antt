use Rattle.cocoon_syntax.specs.TreeOf.{design_of}
use Rattle.command_answers.proofs.Kept.{ShownTo}
use Rattle.command_answers.proofs.obligations.show_all.Given as goal

abbrev pub invariant-loop-index : goal.invariant-loop-index
invariant-loop-index l = ShownTo (design_of l.checked) l.terms l.obligations l.index l.certs.items
