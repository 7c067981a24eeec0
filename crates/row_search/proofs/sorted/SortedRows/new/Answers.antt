use Rattle.std.proofs.Common.{◌*◌, length, sym, ap, ◌∙◌}
use Rattle.row_search.proofs.ScanFacts.{values_counted}
use Rattle.row_search.proofs.sorted.SortedRows.new.Goals as goal

pub first_pairs-requires : goal.first_pairs-requires
first_pairs-requires c =
    ap length (c.deref.ensures.value ∙ c.in_ok-values.ensures)
    ∙ values_counted c.args.masks.now c.args.rows.now c.requires.rows
    ∙ sym (ap (λ rs. length rs * length c.args.masks.now) (c.deref-2.ensures.value ∙ c.in_ok-results.ensures))
