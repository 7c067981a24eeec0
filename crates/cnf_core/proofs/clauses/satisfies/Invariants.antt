use Rattle.std.proofs.Common.{IsTrue, take}
use Rattle.std.specs.List.{All}
use Rattle.cnf_core.specs.Satisfying.{satisfies_clause}
use Rattle.cnf_core.proofs.clauses.satisfies.Given as goal

abbrev pub invariant-loop-clause : goal.invariant-loop-clause
invariant-loop-clause l = All (λ c. IsTrue (satisfies_clause l.assignment c)) (take l.clause-index l.clause-items)
