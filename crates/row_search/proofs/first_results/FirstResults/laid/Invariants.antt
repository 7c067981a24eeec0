use Rattle.std.proofs.Common.{◌≡◌, ◌++◌}
use Rattle.row_search.proofs.PairFacts.{all_values, all_results}
use Rattle.row_search.proofs.first_results.FirstResults.laid.Given as goal

abbrev pub invariant-loop-key : goal.invariant-loop-key
invariant-loop-key l = record {
  values : l.values.items ++ all_values l.key-iterator ≡ all_values l.self.results.entries;
  results : l.results.items ++ all_results l.key-iterator ≡ all_results l.self.results.entries;
}
