use Rattle.flat_goals.proofs.Reductions.{Reducing}
use Rattle.flat_goals.proofs.reducing.reduce.Given as goal

abbrev pub invariant-loop-own : goal.invariant-loop-own
invariant-loop-own l = Reducing l.fn.terms l.goal l.own-items l.terms l.own-index l.ids l.applications.items
