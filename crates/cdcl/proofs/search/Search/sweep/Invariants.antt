use Rattle.cdcl.specs.States.{IsSound, IsUndecided}
use Rattle.cdcl.proofs.search.Search.sweep.Given as goal

abbrev pub invariant-loop-place : goal.invariant-loop-place
invariant-loop-place l = record {
  sound : IsSound l.cnf l.self;
  undecided : IsUndecided l.self;
}
