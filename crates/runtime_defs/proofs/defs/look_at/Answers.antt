use Rattle.std.proofs.Common.{sym, subst, ◌∙◌}
use Rattle.std.proofs.lemmas.Option.{get_or_from_slice_get}
use Rattle.runtime_defs.specs.Places.{HasShape}
use Rattle.runtime_defs.specs.RowKeys.{IsKeyed}
use Rattle.runtime_defs.proofs.Keyed.{keyed-here, there-within, same-some}
use Rattle.runtime_defs.proofs.Shapes.{shape-here}
use Rattle.runtime_defs.proofs.defs.look_at.Goals as goal

pub bounds-keys-function : goal.bounds-keys-function
bounds-keys-function c =
    let here = keyed-here c.args.tables.now c.args.keys.now c.args.function c.requires.takes.table c.requires.keyed c.requires.takes.is_there in
    there-within c.args.keys.now c.args.function here.0 here.1

pub look-requires-clause-keyed : goal.look-requires-clause-keyed
look-requires-clause-keyed c =
    let t = c.requires.takes.table in
    let here = keyed-here c.args.tables.now c.args.keys.now c.args.function t c.requires.keyed c.requires.takes.is_there in
    let is = same-some c.table_at.result c.unwrap-table.result c.args.tables.now c.args.function t c.unwrap-table.ensures c.table_at.ensures c.requires.takes.is_there in
    subst (λ k. IsKeyed c.unwrap-table.result.now k) (sym (c.index-keys-function.is ∙ get_or_from_slice_get c.args.keys.now c.args.function here.0 c.index-keys-function.result here.1))
    (subst (λ u. IsKeyed u here.0) is here.2)

pub look-requires-clause-shape : goal.look-requires-clause-shape
look-requires-clause-shape c =
    let t = c.requires.takes.table in
    let is = same-some c.table_at.result c.unwrap-table.result c.args.tables.now c.args.function t c.unwrap-table.ensures c.table_at.ensures c.requires.takes.is_there in
    subst HasShape is (shape-here c.args.tables.now c.args.function t c.requires.shapes c.requires.takes.is_there)
