use Rattle.bv_terms.specs.Arenas.{KeepsTerms}
use Rattle.rounds.specs.Short.{IsPart}
use Rattle.rounds.proofs.shortening.shortened.Given as goal

abbrev pub invariant-loop : goal.invariant-loop
invariant-loop l = record {
  kept : KeepsTerms l.fn.terms l.terms;
  short : IsPart l.terms l.short;
  rest : IsPart l.terms l.rest;
}
