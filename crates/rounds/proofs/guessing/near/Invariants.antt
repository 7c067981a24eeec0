use Rattle.bv_terms.specs.Arenas.{KeepsTerms}
use Rattle.rounds.specs.Short.{IsPart}
use Rattle.rounds.proofs.guessing.near.Given as goal

abbrev pub invariant-loop : goal.invariant-loop
invariant-loop l = record {
  kept : KeepsTerms l.fn.terms l.terms;
  goal : IsPart l.terms l.goal;
  pins : IsPart l.terms l.pins;
}
