use Rattle.std.proofs.Common.{◌==◌, true, false, get_or, sym, ap, ◌∙◌}
use Rattle.std.specs.BTreeSet.{contains}
use Rattle.std.specs.Ordering.{nat_cmp}
use Rattle.std.proofs.lemmas.Option.{unwrap_or-slice_get}
use Rattle.runtime_defs.proofs.Listing.{not-one-is, noted}
use Rattle.runtime_defs.proofs.true_numbers.note_row.Goals as goal

pub returns-in_ok-insert-clause-noted : goal.returns-in_ok-insert-clause-noted
returns-in_ok-insert-clause-noted c = λ n.
    noted c.args.row.now _ n true (contains nat_cmp c.args.numbers.now n) (contains nat_cmp c.insert.new.self n)
    (ap (λ vs. get_or vs 0 0) c.items.ensures ∙ sym (unwrap_or-slice_get c.args.row.now.values 0 0)) (ap (λ v. v == 1) c.if-row-eq1.true) (c.in_ok-insert.ensures.updates.0 n)

pub returns-else-row-eq1-clause-noted : goal.returns-else-row-eq1-clause-noted
returns-else-row-eq1-clause-noted c = λ n.
    noted c.args.row.now _ n false (contains nat_cmp c.args.numbers.now n) (contains nat_cmp c.remove.new.self n)
    (ap (λ vs. get_or vs 0 0) c.items.ensures ∙ sym (unwrap_or-slice_get c.args.row.now.values 0 0)) (not-one-is c.args.row.now.result.value c.if-row-eq1.false) (c.remove.ensures.updates.0 n)
