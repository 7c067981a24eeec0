use Rattle.std.proofs.Common.{◌≡◌, Some, None, option_map, refl, sym, ap, ◌∙◌, arith}
use Rattle.std.proofs.lemmas.Result.{IfOk-weaker}
use Rattle.json.specs.Json.{parse_map, after_end_array}
use Rattle.serde_json.specs.Data.{no_items, item}
use Rattle.json_scan.specs.Scanning.{read_items, Reads}
use Rattle.json_scan.proofs.Parts.{no_more_items, one_more_item, item_refused}
use Rattle.json_scan.proofs.TwoItems.{one_read, more_read}
use Rattle.json_scan.proofs.pair.last_item.Goals as goal

pub returns-then-take_end_array-clause-ok : goal.returns-then-take_end_array-clause-ok
returns-then-take_end_array-clause-ok g c =
    let over : after_end_array c.args.reader.now ≡ Some c.take_end_array.new.self = grind arith in
    record { items = no_items; reads = no_more_items c.args.depth c.args.reader.now c.take_end_array.new.self over; is = refl }

pub returns-in_err-item-clause-err : goal.returns-in_err-item-clause-err
returns-in_err-item-clause-err g c never =
    let going : (after_end_array c.args.reader.now ≡ None) × (c.take_end_array.new.self ≡ c.args.reader.now) = grind arith in
    item_refused c.args.depth c.args.reader.now going.0 (rw (← going.1) (c.scan.ensures.err (grind arith)))

pub returns-then-take_end_array-2-clause-ok : goal.returns-then-take_end_array-2-clause-ok
returns-then-take_end_array-2-clause-ok g c =
    let going : (after_end_array c.args.reader.now ≡ None) × (c.take_end_array.new.self ≡ c.args.reader.now) = grind arith in
    let over : after_end_array c.scan.new.reader ≡ Some c.take_end_array-2.new.self = grind arith in
    let read : Reads g.B.ScanJson.form c.args.depth c.args.reader.now (option_map g.B.ScanJson.meaning c.in_ok-item.item) c.scan.new.reader = rw (← going.1) c.in_ok-item.ensures.ok in
    one_read c.args.depth c.args.reader.now c.scan.new.reader c.take_end_array-2.new.self going.0 g.B.ScanJson.form _ read over

pub returns-clause-ok : goal.returns-clause-ok
returns-clause-ok g c =
    let going : (after_end_array c.args.reader.now ≡ None) × (c.take_end_array.new.self ≡ c.args.reader.now) = grind arith in
    let more : (after_end_array c.scan.new.reader ≡ None) × (c.take_end_array-2.new.self ≡ c.scan.new.reader) = grind arith in
    let read : Reads g.B.ScanJson.form c.args.depth c.args.reader.now (option_map g.B.ScanJson.meaning c.in_ok-item.item) c.scan.new.reader = rw (← going.1) c.in_ok-item.ensures.ok in
    IfOk-weaker c.no_items.result _ _ (λ found h.
    more_read g.B.ScanJson.form _ _ c.args.depth c.args.reader.now c.scan.new.reader c.no_items.new.reader going.0 read more.0 (rw (← more.1) h.1) (ap (option_map _) (sym h.0))) c.no_items.ensures.ok

pub returns-clause-err : goal.returns-clause-err
returns-clause-err g c e =
    let going : (after_end_array c.args.reader.now ≡ None) × (c.take_end_array.new.self ≡ c.args.reader.now) = grind arith in
    let more : (after_end_array c.scan.new.reader ≡ None) × (c.take_end_array-2.new.self ≡ c.scan.new.reader) = grind arith in
    let read : Reads g.B.ScanJson.form c.args.depth c.args.reader.now (option_map g.B.ScanJson.meaning c.in_ok-item.item) c.scan.new.reader = rw (← going.1) c.in_ok-item.ensures.ok in
    let refused : read_items c.args.depth c.scan.new.reader ≡ None = rw (← more.1) (c.no_items.ensures.err e) in
    one_more_item c.args.depth c.args.reader.now c.scan.new.reader read.found going.0 read.reads ∙ ap (parse_map (item read.found)) refused
