use Rattle.std.proofs.Common.{rules, ◌<◌, length, [], ◌∷◌, ◌++◌, get_or, take, sym, ap, subst, ◌≡◌, ◌∙◌}
use Rattle.numbering.specs.KeyPlaces.{Holds}
use Rattle.runtime_defs.specs.RowKeys.{row_keys, compares_all}
use Rattle.runtime_defs.proofs.Keyed.{keys-added, row-added}
use Rattle.runtime_defs.proofs.row_keys.keys_of.Goals as goal

pub loop-row-preserved : goal.loop-row-preserved
loop-row-preserved c =
    let rows = c.args.table.now.rows in
    let i = c.loop-row.row-index in
    let ends = c.items-row-items.ensures in
    let less = subst (λ xs. i < length xs) ends c.loop-row-test.true in
    let is : c.row-item.result ≡ get_or rows i c.row-item.result = subst (λ xs. c.row-item.result ≡ get_or xs i c.row-item.result) ends c.row-item.is in
    record {
      compared = row-added c.args.table.now.widths rows i c.row-item.result less is c.loop-row.invariant.compared
          (ap (λ ws. compares_all ws c.row-item.result.values c.row-item.result.masks) (sym c.items.ensures) ∙ sym c.compares_all.ensures ∙ search rules);
      held = subst (Holds c.append.new.self) (ap (λ vs. row_keys (take i rows) ++ vs ∷ []) c.items-in-loop-row.ensures ∙ keys-added rows i c.row-item.result less is)
          (c.in_ok-append.ensures (row_keys (take i rows)) c.loop-row.invariant.held);
    }
