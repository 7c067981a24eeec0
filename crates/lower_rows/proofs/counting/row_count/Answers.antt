use Rattle.std.proofs.Common.{List, [], ◌∷◌, length, sym, ap, ◌∙◌, count_by}
use Rattle.cocoon_num.specs.Names.{same_name}
use Rattle.cocoon_syntax.specs.TreeOf.{design_of}
use Rattle.cocoon_types.specs.Design.{widths_of}
use Rattle.runtime_defs.specs.Printable.{all_ones}
use Rattle.lowering.specs.Lower.{params_before_last}
use Rattle.lower_code.specs.Growth.{made_of, params_at, text_at}
use Rattle.lowering_correct.specs.Groups.{ForkGroup}
use Rattle.lowering_correct.specs.SwitchRows.{made_rows, rows_from}
use Rattle.lower_rows.specs.AllRows.{rows_in}
use Rattle.lower_rows.proofs.RowCounts.{table-rows}
use Rattle.lower_rows.proofs.counting.row_count.Goals as goal

pub returns-in-Group : goal.returns-in-Group
returns-in-Group c =
    let d = design_of c.args.checked.now in
    let n = c.in-Group.field-0.number in
    let f = text_at d c.in-Group.function in
    let masks = all_ones (widths_of (params_before_last (params_at d c.in-Group.function))) in
    c.group_count.ensures
    ∙ ap (λ name. count_by (λ g. same_name name g.function.now) c.args.groups.now) c.function_name.ensures
    ∙ sym (table-rows n masks c.args.groups.now f)
    ∙ ap (λ (gs : List ForkGroup). length (rows_in (record { number = n; otherwise = 0; rows = rows_from masks 1 gs f } ∷ []))) c.requires
    ∙ ap (λ part. length (rows_in (made_rows d c.args.defs.now (made_of d part)))) (sym c.in-Group.is)
