use Rattle.std.proofs.Common.{arith, length, rules, subst, ◌≤◌}
use Rattle.std.specs.Bool.{IsTrue}
use Rattle.std.specs.List.{All}
use Rattle.std.proofs.lemmas.List.{take_all}
use Rattle.std.proofs.lemmas.List.Elements.{All-more}
use Rattle.obligation_tests.specs.Plain.{RowStands}
use Rattle.obligation_tests.proofs.fitting.rows_stand.Goals as goal

pub loop-row-preserved : goal.loop-row-preserved
loop-row-preserved c =
    let stands = RowStands c.args.widths.now c.args.width in
    let yes : IsTrue c.row_stands.result = search rules in
    All-more stands c.args.rows.now c.loop-row.row-index c.row-item.result c.loop-row-test.true c.loop-row.invariant
    (subst stands c.row-item.is (c.row_stands.ensures yes))

pub returns : goal.returns
returns c = λ t.
    let rows = c.args.rows.now in
    let done : length rows ≤ c.loop-row.row-index = (let more = c.loop-row-test.false in omega (arith, more)) in
    subst (All (RowStands c.args.widths.now c.args.width)) (take_all c.loop-row.row-index rows done) c.loop-row.invariant
