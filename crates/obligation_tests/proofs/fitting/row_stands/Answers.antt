use Rattle.std.proofs.Common.{◌≡◌, length, rules, subst}
use Rattle.std.specs.Bool.{IsTrue}
use Rattle.std.specs.List.{AllZip}
use Rattle.std.proofs.lemmas.Slice.Zip.{AllZip-long}
use Rattle.cocoon_num.specs.Values.{FitsWidth}
use Rattle.runtime_defs.specs.Places.{all_fit_widths}
use Rattle.obligation_tests.proofs.Standing.{masks-fit}
use Rattle.obligation_tests.proofs.fitting.row_stands.Goals as goal

pub returns : goal.returns
returns c = λ same.
    let widths = c.args.widths.now in
    let fit : IsTrue c.all_fit.result = search rules in
    let masks : AllZip FitsWidth widths c.args.row.now.masks =
    masks-fit widths c.args.row.now.masks (subst (λ ms. IsTrue (all_fit_widths widths ms)) c.items-masks.ensures (c.all_fit.ensures fit)) in
    let values : length c.args.row.now.values ≡ length widths = search rules in
    (((values, AllZip-long FitsWidth widths c.args.row.now.masks masks), search rules), masks)
