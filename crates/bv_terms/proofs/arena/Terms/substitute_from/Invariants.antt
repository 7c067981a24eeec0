use Rattle.bv_terms.proofs.Substituting.{Ranging}
use Rattle.bv_terms.proofs.arena.Terms.substitute_from.Given as goal

abbrev pub invariant-loop-own : goal.invariant-loop-own
invariant-loop-own l = Ranging l.fn.self l.self l.from l.to l.first l.own l.ids l.all.items
