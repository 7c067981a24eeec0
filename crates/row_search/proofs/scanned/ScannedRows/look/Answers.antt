use Rattle.std.proofs.Common.{◌≡◌, ◌<◌, false, drop, length, sym, ap, subst, ◌∙◌}
use Rattle.std.proofs.lemmas.List.{take_rest}
use Rattle.row_search.specs.Keyed.{keyed}
use Rattle.row_search.specs.Scanned as spec
use Rattle.row_search.proofs.PairFacts.{row_on}
use Rattle.row_search.proofs.ScanFacts.{scanned_on}
use Rattle.row_search.proofs.scanned.ScannedRows.look.Goals as goal

pub loop-result-preserved : goal.loop-result-preserved
loop-result-preserved c =
    let s = c.args.self.now in
    let xs = keyed c.args.meta.now c.args.keys.now in
    let at = c.loop-result.at in
    let i = c.loop-result.result-index in
    let tests = c.as_slice-tests.result.now in
    let listed : i < length s.results.items = subst (λ rs. i < length rs) c.as_slice-result-items.ensures.value c.loop-result-test.true in
    let not_here : spec.fits (drop at tests) xs ≡ false = ap (λ ts. spec.fits ts xs) (sym (take_rest tests at)) ∙ sym c.matches.ensures ∙ c.if-matches.false in
    let unfit : spec.fits (drop at s.tests.items) xs ≡ false = subst (λ ts. spec.fits (drop at ts) xs ≡ false) c.as_slice-tests.ensures.value not_here in
    record {
      at = row_on at i s.count c.loop-result.invariant.at;
      rest = scanned_on s.count s.tests.items s.results.items c.args.default xs at i listed unfit ∙ c.loop-result.invariant.rest;
    }
