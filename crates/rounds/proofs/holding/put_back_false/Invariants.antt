use Rattle.rounds.specs.Short.{IsReadable}
use Rattle.rounds.proofs.holding.put_back_false.Given as goal

abbrev pub invariant-loop : goal.invariant-loop
invariant-loop l = IsReadable l.env l.terms l.rest
