use Rattle.std.proofs.Common.{◌≡◌}
use Rattle.cdcl.specs.States.{IsBegun, IsSound}
use Rattle.cdcl.proofs.search.Search.new.Given as goal

abbrev pub invariant-loop-clause : goal.invariant-loop-clause
invariant-loop-clause l = record {
  sound : IsSound l.cnf l.search;
  begun : IsBegun l.cnf l.search l.number;
  at : l.number ≡ l.clause-index;
}
