use Rattle.cocoon_syntax.specs.TreeOf.{design_of}
use Rattle.discharge.specs.Meeting.{EarlierAreMet}
use Rattle.discharge.proofs.meeting.meets_to.Given as goal

abbrev pub invariant-loop-number : goal.invariant-loop-number
invariant-loop-number l = EarlierAreMet (design_of l.checked) l.defs l.number
