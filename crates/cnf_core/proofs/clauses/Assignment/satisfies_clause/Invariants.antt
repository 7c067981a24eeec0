use Rattle.std.proofs.Common.{◌≡◌, drop}
use Rattle.std.specs.List.{list_any}
use Rattle.cnf_core.specs.Clauses.{literals}
use Rattle.cnf_core.specs.Satisfying.{makes_true}
use Rattle.cnf_core.specs.Trails.{numbers}
use Rattle.cnf_core.proofs.clauses.Assignment.satisfies_clause.Given as goal

abbrev pub invariant-loop-lit : goal.invariant-loop-lit
invariant-loop-lit l = list_any (makes_true l.self) (numbers (drop l.lit-index l.lit-items)) ≡ list_any (makes_true l.self) (literals l.clause)
