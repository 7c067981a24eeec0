use Rattle.std.proofs.Common.{◌≡◌, ◌∷◌, [], ◌∙◌, ap, map, rules, Err}
use Rattle.std.proofs.lemmas.List.{map-append}
use Rattle.p4_ir.specs.Program as ir
use Rattle.p4_texts.specs.KindFaults.{table_pieces}
use Rattle.p4_texts.specs.TreeOf.{table_of}
use Rattle.p4_resolve.specs.Controls.{action_names, table_numbers}
use Rattle.p4_resolve.specs.Judged.{StopsBy}
use Rattle.p4_resolve.proofs.PieceFacts.{handed_on}
use Rattle.p4_resolve.proofs.TableFacts.{one_more, one_stops, so_far}
use Rattle.p4_resolve.proofs.controls.tables.Goals as goal

pub returns-in_err-table-clause-stops : goal.returns-in_err-table-clause-stops
returns-in_err-table-clause-stops c = λ t done known before.
    let ks = c.args.tables.now in
    let i = c.loop-written.written-index in
    let so = c.loop-written.invariant t done known before in
    let fault = c.in_err-table.field-0.0 in
    let same : c.from_residual.result ≡ Err c.in_err-table.field-0.0 = search rules in
    handed_on c.from_residual.result fault (StopsBy c.args.at (table_pieces t (action_names done) (table_numbers t done) (map table_of ks))) same
    (one_stops t done ks c.args.at (map ir.table_of c.loop-written.made.items) c.loop-written.before c.loop-written.next i c.written-item.result fault c.loop-written-test.true c.written-item.is so (c.in_err-table.ensures.stops t (so_far done ks i) known so.before))

pub loop-written-preserved : goal.loop-written-preserved
loop-written-preserved c = λ t done known before.
    let ks = c.args.tables.now in
    let i = c.loop-written.written-index in
    let so = c.loop-written.invariant t done known before in
    one_more t done ks c.args.at (map ir.table_of c.loop-written.made.items) (map ir.table_of c.push.new.self.items) c.loop-written.before c.table.new.before c.loop-written.next c.in_ok-table.end i c.written-item.result (ir.table_of c.in_ok-table.table)
    c.loop-written-test.true c.written-item.is so (c.in_ok-table.ensures.keeps t (so_far done ks i) known so.before)
    (ap (map ir.table_of) c.in_ok-push.ensures.items ∙ map-append ir.table_of c.loop-written.made.items (c.in_ok-table.table ∷ []))
