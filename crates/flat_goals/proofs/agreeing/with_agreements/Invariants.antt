use Rattle.flat_goals.proofs.Agreements.{Joining}
use Rattle.flat_goals.proofs.agreeing.with_agreements.Given as goal

abbrev pub invariant-loop-place : goal.invariant-loop-place
invariant-loop-place l = Joining l.fn.terms l.terms l.goal l.taken l.earlier l.later l.place-index l.agreed
