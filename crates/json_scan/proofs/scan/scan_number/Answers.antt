use Rattle.std.proofs.Common.{option_map, sym, ap}
use Rattle.std.proofs.lemmas.Result.{IfOk-weaker}
use Rattle.serde_json.specs.Find.{as_number}
use Rattle.json_scan.proofs.Parts.{passed_array, passed_object, array_refused, object_refused}
use Rattle.json_scan.proofs.scan.scan_number.Goals as goal

pub returns-in-Array-clause-ok : goal.returns-in-Array-clause-ok
returns-in-Array-clause-ok c =
    IfOk-weaker c.no_items.result _ _ (λ read h.
    passed_array c.args.depth c.in-Array.within c.args.reader.now c.begin.new.reader c.in_ok-start.start c.in_ok-start.ensures.ok as_number _ c.no_items.new.reader c.in-Array.is h.1
    (λ _. ap (option_map _) (sym h.0))) c.no_items.ensures.ok

pub returns-in-Array-clause-err : goal.returns-in-Array-clause-err
returns-in-Array-clause-err c e = array_refused c.args.depth c.in-Array.within c.args.reader.now c.begin.new.reader c.in_ok-start.start c.in_ok-start.ensures.ok c.in-Array.is (c.no_items.ensures.err e)

pub returns-in-Object-clause-ok : goal.returns-in-Object-clause-ok
returns-in-Object-clause-ok c =
    IfOk-weaker c.no_members.result _ _ (λ read h.
    passed_object c.args.depth c.in-Object.within c.args.reader.now c.begin.new.reader c.in_ok-start.start c.in_ok-start.ensures.ok as_number _ c.no_members.new.reader c.in-Object.is h.1
    (λ _. ap (option_map _) (sym h.0))) c.no_members.ensures.ok

pub returns-in-Object-clause-err : goal.returns-in-Object-clause-err
returns-in-Object-clause-err c e = object_refused c.args.depth c.in-Object.within c.args.reader.now c.begin.new.reader c.in_ok-start.start c.in_ok-start.ensures.ok c.in-Object.is (c.no_members.ensures.err e)
