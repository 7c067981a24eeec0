use Rattle.std.proofs.Common.{◌*◌, length, sym, ap, ◌∙◌}
use Rattle.row_search.proofs.ScanFacts.{tests_counted}
use Rattle.row_search.proofs.scanned.ScannedRows.new.Goals as goal

pub invariant_of-result : goal.invariant_of-result
invariant_of-result c = record {
  many = ap length c.in_ok-tests.ensures ∙ tests_counted c.args.count c.args.rows.now c.requires ∙ sym (ap (λ rs. length rs * c.args.count) c.in_ok-results.ensures);
}
