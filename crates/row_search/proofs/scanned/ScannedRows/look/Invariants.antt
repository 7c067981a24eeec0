use Rattle.std.proofs.Common.{◌≡◌, ◌*◌, drop}
use Rattle.row_search.specs.Keyed.{keyed}
use Rattle.row_search.specs.Scanned.{scanned}
use Rattle.row_search.proofs.scanned.ScannedRows.look.Given as goal

abbrev pub invariant-loop-result : goal.invariant-loop-result
invariant-loop-result l = record {
  at : l.at ≡ l.result-index * l.self.count;
  rest : scanned l.self.count (drop l.at l.self.tests.items) (drop l.result-index l.self.results.items) l.default (keyed l.meta l.keys)
      ≡ scanned l.self.count l.self.tests.items l.self.results.items l.default (keyed l.meta l.keys);
}
