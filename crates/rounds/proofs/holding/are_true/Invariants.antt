use Rattle.rounds.specs.Short.{IsReadable}
use Rattle.rounds.proofs.holding.are_true.Given as goal

abbrev pub invariant-loop : goal.invariant-loop
invariant-loop l = IsReadable l.env l.terms l.rest
