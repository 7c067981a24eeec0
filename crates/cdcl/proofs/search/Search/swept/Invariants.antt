use Rattle.cdcl.specs.States.{IsSound, IsUndecided}
use Rattle.cdcl.proofs.search.Search.swept.Given as goal

abbrev pub invariant-loop-sweep : goal.invariant-loop-sweep
invariant-loop-sweep l = record {
  sound : IsSound l.cnf l.search;
  undecided : IsUndecided l.search;
}
