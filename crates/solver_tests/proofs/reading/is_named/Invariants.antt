use Rattle.std.proofs.Common.{take}
use Rattle.std.specs.List.{All}
use Rattle.cnf_core.specs.Literals.{Names}
use Rattle.solver_tests.proofs.reading.is_named.Given as goal

abbrev pub invariant-loop-lit : goal.invariant-loop-lit
invariant-loop-lit l = All (λ x. Names l.vars x.number) (take l.lit-index l.lit-items)
