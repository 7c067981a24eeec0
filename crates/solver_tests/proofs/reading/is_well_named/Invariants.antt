use Rattle.std.proofs.Common.{take}
use Rattle.std.specs.List.{All}
use Rattle.cnf_core.specs.Clauses.{literals}
use Rattle.cnf_core.specs.Literals.{Names}
use Rattle.solver_tests.proofs.reading.is_well_named.Given as goal

abbrev pub invariant-loop-clause : goal.invariant-loop-clause
invariant-loop-clause l = All (λ c. All (Names l.cnf.vars) (literals c)) (take l.clause-index l.clause-items)
