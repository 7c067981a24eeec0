use Rattle.std.proofs.Common.{◌<◌, length, sym, ap, subst, ◌∙◌}
use Rattle.std.proofs.lemmas.List.{length-map}
use Rattle.cocoon_num.specs.declared.fun_table.FunRow.{FunRow}
use Rattle.runtime_defs.specs.RowKeys.{row_keys}
use Rattle.runtime_defs.proofs.Keyed.{given, given-at, keyed-look, place-within}
use Rattle.runtime_defs.proofs.row_keys.look_by.Goals as goal

pub bounds-items-place : goal.bounds-items-place
bounds-items-place c =
    let rows = c.args.table.now.rows in
    subst (λ n. c.in-Some.place < n) (length-map rows (λ (row : FunRow). row.values) ∙ ap length (sym c.items.ensures))
    (place-within c.args.args.now (row_keys rows) c.in-Some.place (sym (c.place.ensures (row_keys rows) c.requires.keyed.1) ∙ c.in-Some.is))

pub bounds-items-place-in-Some : goal.bounds-items-place-in-Some
bounds-items-place-in-Some c =
    let rows = c.args.table.now.rows in
    subst (λ n. c.in-Some.place < n) (length-map rows (λ (row : FunRow). row.values) ∙ ap length (sym c.items.ensures))
    (place-within c.args.args.now (row_keys rows) c.in-Some.place (sym (c.place.ensures (row_keys rows) c.requires.keyed.1) ∙ c.in-Some.is))

pub returns-in-Some : goal.returns-in-Some
returns-in-Some c =
    let t = c.args.table.now in
    let found = sym (c.place.ensures (row_keys t.rows) c.requires.keyed.1) ∙ c.in-Some.is in
    let within = subst (λ n. c.in-Some.place < n) (length-map t.rows (λ (row : FunRow). row.values)) (place-within c.args.args.now (row_keys t.rows) c.in-Some.place found) in
    rw c.items.ensures (sym (given-at t.rows t.default c.in-Some.place c.index-items-place.result within))
    ∙ sym (keyed-look t.widths c.args.args.now t.rows t.default c.requires.keyed.0 c.requires.fits ∙ ap (given t.rows t.default) found)

pub returns-in-None : goal.returns-in-None
returns-in-None c =
    let t = c.args.table.now in
    let missed = sym (c.place.ensures (row_keys t.rows) c.requires.keyed.1) ∙ c.in-None.is in
    sym (keyed-look t.widths c.args.args.now t.rows t.default c.requires.keyed.0 c.requires.fits ∙ ap (given t.rows t.default) missed)
