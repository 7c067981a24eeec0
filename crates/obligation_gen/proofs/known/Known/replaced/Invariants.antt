use Rattle.obligation_gen.proofs.KnownTerms.{Walking}
use Rattle.obligation_gen.proofs.known.Known.replaced.Given as goal

abbrev pub invariant-loop : goal.invariant-loop
invariant-loop l = Walking l.fn.terms l.terms l.by l.self l.waiting.items
