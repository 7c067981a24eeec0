use Rattle.std.proofs.Common.{option_map, refl, sym, ap}
use Rattle.std.proofs.lemmas.Result.{IfOk-weaker}
use Rattle.json_scan.specs.Pairs.{members_of, object_form}
use Rattle.json_scan.proofs.Parts.{object_is, passed_array, array_refused, object_refused}
use Rattle.json_scan.proofs.pair.scan_members.Goals as goal

pub returns-in-Object-clause-ok : goal.returns-in-Object-clause-ok
returns-in-Object-clause-ok g c =
    IfOk-weaker c.two_members.result _ _ (λ read r.
    object_is c.args.depth c.in-Object.within c.args.reader.now c.begin.new.reader c.in_ok-start.start c.in_ok-start.ensures.ok (object_form g.A.ScanJson.form g.B.ScanJson.form c.args.first_key.now c.args.second_key.now) _ c.two_members.new.reader (members_of g.A.ScanJson.form g.B.ScanJson.form c.args.first_key.now c.args.second_key.now) _ (λ x. x) c.in-Object.is r
    (λ ms. refl) refl) c.two_members.ensures.ok

pub returns-in-Object-clause-err : goal.returns-in-Object-clause-err
returns-in-Object-clause-err g c e = object_refused c.args.depth c.in-Object.within c.args.reader.now c.begin.new.reader c.in_ok-start.start c.in_ok-start.ensures.ok c.in-Object.is (c.two_members.ensures.err e)

pub returns-in-Array-clause-ok : goal.returns-in-Array-clause-ok
returns-in-Array-clause-ok g c =
    IfOk-weaker c.no_items.result _ _ (λ read h.
    passed_array c.args.depth c.in-Array.within c.args.reader.now c.begin.new.reader c.in_ok-start.start c.in_ok-start.ensures.ok (object_form g.A.ScanJson.form g.B.ScanJson.form c.args.first_key.now c.args.second_key.now) _ c.no_items.new.reader c.in-Array.is h.1
    (λ _. ap (option_map _) (sym h.0))) c.no_items.ensures.ok

pub returns-in-Array-clause-err : goal.returns-in-Array-clause-err
returns-in-Array-clause-err g c e = array_refused c.args.depth c.in-Array.within c.args.reader.now c.begin.new.reader c.in_ok-start.start c.in_ok-start.ensures.ok c.in-Array.is (c.no_items.ensures.err e)
