use Rattle.std.proofs.Common.{◌≡◌, length, map, None, option_map, sym, ap, ◌∙◌, true, arith}
use Rattle.json.specs.Json.{parse_map, after_end_array}
use Rattle.serde_json.specs.Data.{no_items, item}
use Rattle.json_forms.specs.Forms.{all_form}
use Rattle.json_scan.proofs.Parts.{twice, itself, taken_shorter, no_more_items, one_more_item, item_refused}
use Rattle.json_scan.proofs.Lists.{joined, joined_first, added, listed}
use Rattle.json_scan.proofs.list.list_items.Goals as goal

pub items-init : goal.items-init
items-init g c =
    (λ ds. ds, itself _, λ rest. joined_first (all_form g.T.ScanJson.form rest) ∙ ap (λ xs. joined true (map g.T.ScanJson.meaning xs) (all_form g.T.ScanJson.form rest)) (sym c.new-items.ensures.items))

pub returns-in_err-item-clause-err : goal.returns-in_err-item-clause-err
returns-in_err-item-clause-err g c never =
    let l = c.items in
    let going : (after_end_array l.reader ≡ None) × (c.take_end_array.new.self ≡ l.reader) = grind arith in
    l.invariant.1 ∙ ap (parse_map l.invariant.0) (item_refused c.args.depth l.reader going.0 (rw (← going.1) (c.scan.ensures.err (grind arith))))

pub items-smaller : goal.items-smaller
items-smaller g c =
    let going : (after_end_array c.items.reader ≡ None) × (c.take_end_array.new.self ≡ c.items.reader) = grind arith in
    let done = c.in_ok-item.ensures.ok in
    let less = taken_shorter c.args.depth c.take_end_array.new.self c.scan.new.reader done.found done.reads in
    omega (arith, less, ap length going.1)

pub items-preserved : goal.items-preserved
items-preserved g c =
    let l = c.items in
    let going : (after_end_array l.reader ≡ None) × (c.take_end_array.new.self ≡ l.reader) = grind arith in
    let done = c.in_ok-item.ensures.ok in
    let before = l.invariant.0 in
    let turn = one_more_item c.args.depth l.reader c.scan.new.reader done.found going.0 (rw (← going.1) done.reads) in (
      λ rest. before (item done.found rest),
      l.invariant.1 ∙ ap (parse_map before) turn ∙ twice before (item done.found) _,
      λ rest. l.invariant.2 (item done.found rest)
          ∙ added g.T.ScanJson.form g.T.ScanJson.meaning l.found.are_of_the_form c.add.new.self.are_of_the_form l.found.items.items c.add.new.self.items.items done.found rest c.in_ok-item.item done.is c.in_ok-add.ensures.ok,
    )

pub returns-clause-ok : goal.returns-clause-ok
returns-clause-ok g c =
    let l = c.items in
    record {
      items = l.invariant.0 no_items;
      reads = l.invariant.1 ∙ ap (parse_map l.invariant.0) (no_more_items c.args.depth l.reader c.take_end_array.new.self (grind arith));
      is = l.invariant.2 no_items ∙ listed g.T.ScanJson.meaning l.found.are_of_the_form l.found.items ∙ ap (option_map _) (sym c.list.ensures);
    }
