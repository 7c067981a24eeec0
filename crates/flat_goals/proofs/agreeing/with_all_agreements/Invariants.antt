use Rattle.flat_goals.proofs.Agreements.{JoiningAll}
use Rattle.flat_goals.proofs.agreeing.with_all_agreements.Given as goal

abbrev pub invariant-loop-place : goal.invariant-loop-place
invariant-loop-place l = JoiningAll l.fn.terms l.terms l.goal l.taken l.groups l.place l.all
