use Rattle.std.proofs.Common.{map, take, sym, subst}
use Rattle.std.proofs.lemmas.List.{take_all}
use Rattle.numbering.specs.NumberPlaces.{HasPlaces}
use Rattle.p4_ir.specs.Loading.{table_numbers}
use Rattle.p4_ir.specs.NetOf.{table_rows_of}
use Rattle.p4_ir.specs.P4Tree.{TableRows}
use Rattle.p4_run.proofs.PlaceSteps.{numbers_more}
use Rattle.p4_run.proofs.places.row_places.Goals as goal

pub loop-own-preserved : goal.loop-own-preserved
loop-own-preserved c =
    let rows = c.args.rows.now in
    let i = c.loop-own.own-index in
    subst (HasPlaces c.append.new.self) (sym (numbers_more table_rows_of (λ (r : TableRows). r.number) rows i c.own-item.result c.loop-own-test.true c.own-item.is))
    (c.in_ok-append.ensures (table_numbers (map table_rows_of (take i rows))) c.loop-own.invariant)

pub returns : goal.returns
returns c =
    subst (λ rows. HasPlaces c.loop-own.places (table_numbers (map table_rows_of rows))) (take_all c.loop-own.own-index c.args.rows.now c.loop-own-test.false) c.loop-own.invariant
