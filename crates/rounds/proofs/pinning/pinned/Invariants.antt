use Rattle.std.proofs.Common.{◌≤◌, length}
use Rattle.bv_terms.specs.Arenas.{KeepsTerms}
use Rattle.rounds.specs.Short.{IsPart}
use Rattle.rounds.proofs.pinning.pinned.Given as goal

abbrev pub invariant-loop-id : goal.invariant-loop-id
invariant-loop-id l = record {
  kept : KeepsTerms l.fn.terms l.terms;
  all : IsPart l.terms l.all;
  there : l.id-end ≤ length l.terms;
}
