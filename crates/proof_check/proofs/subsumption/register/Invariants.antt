use Rattle.std.proofs.Common.{map, take}
use Rattle.cnf_core.specs.Clauses.{literals}
use Rattle.proof_check.specs.Subsuming.{AllFilled}
use Rattle.proof_check.specs.Registering.{Registers, tops_of}
use Rattle.proof_check.proofs.subsumption.register.Given as goal

abbrev pub invariant-loop-clause : goal.invariant-loop-clause
invariant-loop-clause l = record {
  registered : Registers l.vars (tops_of (map literals (take l.clause-index l.clauses))) l.chains;
  filled : AllFilled (map literals (take l.clause-index l.clauses));
}
