use Rattle.std.proofs.Common.{rules, subst}
use Rattle.std.specs.Bool.{IsTrue}
use Rattle.std.specs.List.{All}
use Rattle.obligation_tests.specs.Plain.{RowStands}
use Rattle.obligation_tests.proofs.Standing.{all-masked, rows-fit}
use Rattle.obligation_tests.proofs.fitting.table_stands.Goals as goal

pub returns : goal.returns
returns c = λ same.
    let widths = c.args.widths.now in
    let width = c.args.width in
    let rows = c.args.table.now.rows in
    let stand : IsTrue c.rows_stand.result = search rules in
    let all : All (RowStands widths width) rows = subst (All (RowStands widths width)) c.items-rows.ensures (c.rows_stand.ensures stand) in
    (record { args = search rules; rows = rows-fit widths width rows all; otherwise = search rules }, all-masked widths width rows all)
