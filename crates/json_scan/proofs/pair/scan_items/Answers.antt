use Rattle.std.proofs.Common.{option_map, refl, sym, ap}
use Rattle.std.proofs.lemmas.Result.{IfOk-weaker}
use Rattle.json_scan.specs.Pairs.{array_form, pair_of}
use Rattle.json_scan.proofs.Pairs.{array_pair}
use Rattle.json_scan.proofs.Parts.{array_is, passed_object, array_refused, object_refused}
use Rattle.json_scan.proofs.pair.scan_items.Goals as goal

pub returns-in-Array-clause-ok : goal.returns-in-Array-clause-ok
returns-in-Array-clause-ok g c =
    IfOk-weaker c.items_of_two.result _ _ (λ read r.
    array_is c.args.depth c.in-Array.within c.args.reader.now c.begin.new.reader c.in_ok-start.start c.in_ok-start.ensures.ok (array_form g.A.ScanJson.form g.B.ScanJson.form) _ c.items_of_two.new.reader (pair_of g.A.ScanJson.form g.B.ScanJson.form) _ (λ x. x) c.in-Array.is r
    (array_pair g.A.ScanJson.form g.B.ScanJson.form) refl) c.items_of_two.ensures.ok

pub returns-in-Array-clause-err : goal.returns-in-Array-clause-err
returns-in-Array-clause-err g c e = array_refused c.args.depth c.in-Array.within c.args.reader.now c.begin.new.reader c.in_ok-start.start c.in_ok-start.ensures.ok c.in-Array.is (c.items_of_two.ensures.err e)

pub returns-in-Object-clause-ok : goal.returns-in-Object-clause-ok
returns-in-Object-clause-ok g c =
    IfOk-weaker c.no_members.result _ _ (λ read h.
    passed_object c.args.depth c.in-Object.within c.args.reader.now c.begin.new.reader c.in_ok-start.start c.in_ok-start.ensures.ok (array_form g.A.ScanJson.form g.B.ScanJson.form) _ c.no_members.new.reader c.in-Object.is h.1
    (λ _. ap (option_map _) (sym h.0))) c.no_members.ensures.ok

pub returns-in-Object-clause-err : goal.returns-in-Object-clause-err
returns-in-Object-clause-err g c e = object_refused c.args.depth c.in-Object.within c.args.reader.now c.begin.new.reader c.in_ok-start.start c.in_ok-start.ensures.ok c.in-Object.is (c.no_members.ensures.err e)
