use Rattle.std.proofs.Common.{◌≡◌, Some, None, option_map, refl, ap, ◌∙◌, arith}
use Rattle.json.specs.Json.{parse_map, after_end_array}
use Rattle.serde_json.specs.Data.{no_items, item}
use Rattle.json_scan.specs.Scanning.{Reads}
use Rattle.json_scan.proofs.Parts.{no_more_items, one_more_item, item_refused}
use Rattle.json_scan.proofs.TwoItems.{two_read}
use Rattle.json_scan.proofs.pair.items_of_two.Goals as goal

pub returns-then-take_end_array-clause-ok : goal.returns-then-take_end_array-clause-ok
returns-then-take_end_array-clause-ok g c =
    let over : after_end_array c.args.reader.now ≡ Some c.take_end_array.new.self = grind arith in
    record { items = no_items; reads = no_more_items c.args.depth c.args.reader.now c.take_end_array.new.self over; is = refl }

pub returns-in_err-first-clause-err : goal.returns-in_err-first-clause-err
returns-in_err-first-clause-err g c never =
    let going : (after_end_array c.args.reader.now ≡ None) × (c.take_end_array.new.self ≡ c.args.reader.now) = grind arith in
    item_refused c.args.depth c.args.reader.now going.0 (rw (← going.1) (c.scan.ensures.err (grind arith)))

pub returns-in_err-last-clause-err : goal.returns-in_err-last-clause-err
returns-in_err-last-clause-err g c never =
    let going : (after_end_array c.args.reader.now ≡ None) × (c.take_end_array.new.self ≡ c.args.reader.now) = grind arith in
    let read : Reads g.A.ScanJson.form c.args.depth c.args.reader.now (option_map g.A.ScanJson.meaning c.in_ok-first.first) c.scan.new.reader = rw (← going.1) c.in_ok-first.ensures.ok in
    one_more_item c.args.depth c.args.reader.now c.scan.new.reader read.found going.0 read.reads ∙ ap (parse_map (item read.found)) (c.last_item.ensures.err (grind arith))

pub returns-in-Some-clause-ok : goal.returns-in-Some-clause-ok
returns-in-Some-clause-ok g c =
    let going : (after_end_array c.args.reader.now ≡ None) × (c.take_end_array.new.self ≡ c.args.reader.now) = grind arith in
    let read : Reads g.A.ScanJson.form c.args.depth c.args.reader.now (option_map g.A.ScanJson.meaning c.in_ok-first.first) c.scan.new.reader = rw (← going.1) c.in_ok-first.ensures.ok in
    two_read c.args.depth c.args.reader.now c.scan.new.reader c.last_item.new.reader going.0 g.A.ScanJson.form g.B.ScanJson.form _ _ _ read c.in_ok-last.ensures.ok
    (ap (λ o. option_map (λ x. (option_map g.A.ScanJson.meaning c.in_ok-first.first, x)) (option_map (option_map g.B.ScanJson.meaning) o)) c.in-Some.is)

pub returns-in-None-clause-ok : goal.returns-in-None-clause-ok
returns-in-None-clause-ok g c =
    let going : (after_end_array c.args.reader.now ≡ None) × (c.take_end_array.new.self ≡ c.args.reader.now) = grind arith in
    let read : Reads g.A.ScanJson.form c.args.depth c.args.reader.now (option_map g.A.ScanJson.meaning c.in_ok-first.first) c.scan.new.reader = rw (← going.1) c.in_ok-first.ensures.ok in
    two_read c.args.depth c.args.reader.now c.scan.new.reader c.last_item.new.reader going.0 g.A.ScanJson.form g.B.ScanJson.form _ _ _ read c.in_ok-last.ensures.ok
    (ap (λ o. option_map (λ x. (option_map g.A.ScanJson.meaning c.in_ok-first.first, x)) (option_map (option_map g.B.ScanJson.meaning) o)) c.in-None.is)
