use Rattle.std.proofs.Common.{◌∙◌}
use Rattle.row_search.specs.Scanned as spec
use Rattle.row_search.proofs.ScanFacts.{scanned_is}
use Rattle.row_search.proofs.flat.scanned.Goals as goal

pub returns : goal.returns
returns c = λ default. record {
  many = c.in_ok-new.ensures.count;
  answers = λ xs l.
      (λ i. spec.scanned (c.in_ok-new.ensures.count i) (c.in_ok-new.ensures.tests i) (c.in_ok-new.ensures.results i) default xs)
      ∙ scanned_is c.args.count c.args.rows.now default xs c.requires l;
}
