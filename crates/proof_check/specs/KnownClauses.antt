-- Cited by the clauses of what reads the clauses that a step may use.
use Rattle.std.specs.Prelude.{ℤ, List}
use Rattle.cnf_core.specs.Deriving.{known}
use Rattle.proof_check.specs.declared.known.Known.{Known}

abbrev pub clauses_of : Known → List (List ℤ)
clauses_of k = known k.cnf.now k.so_far.now
