use Rattle.std.proofs.Common.{◌≡◌, ◌-◌, ◌<◌, ◌∙◌, get_or, length, map, ap, arith, subst, sym}
use Rattle.std.proofs.lemmas.List.Elements.{recursion_from_All}
use Rattle.bv_terms.specs.Arenas.{width_at}
use Rattle.bv_terms.specs.Environments.{RowFits}
use Rattle.bv_terms.specs.Fitting.{MasksFit}
use Rattle.bv_terms.proofs.Growing.{widths-kept}
use Rattle.bv_terms.proofs.Choices.{choose-step, row-at}
use Rattle.bv_terms.proofs.rows.table_choices.Goals as goal

pub row_choice-requires-clause-masks : goal.row_choice-requires-clause-masks
row_choice-requires-clause-masks c =
    let inside = recursion_from_All (λ k. k < length c.args.terms.now) c.args.args.now c.requires.there in
    let rows = c.args.table.now.rows in
    let row = c.index-rows-at.result in
    let is : row ≡ get_or rows (c.loop-at.at - 1) row = c.index-rows-at.is ∙ ap (λ rs. get_or rs (c.loop-at.at - 1) row) c.items-rows.ensures in
    subst (λ ws. MasksFit ws row) (sym (widths-kept c.args.terms.now c.loop-at.terms c.args.args.now c.loop-at.invariant.grown inside))
    (row-at (MasksFit (map (width_at c.args.terms.now) c.args.args.now)) rows (c.loop-at.at - 1) row
    (let w = c.loop-at.invariant.within in let p = c.loop-at-test.true in omega arith) is c.requires.fits.1)

pub loop-at-preserved : goal.loop-at-preserved
loop-at-preserved c =
    let inside = recursion_from_All (λ k. k < length c.args.terms.now) c.args.args.now c.requires.there in
    let rows = c.args.table.now.rows in
    let row = c.index-rows-at.result in
    let is : row ≡ get_or rows (c.loop-at.at - 1) row = c.index-rows-at.is ∙ ap (λ rs. get_or rs (c.loop-at.at - 1) row) c.items-rows.ensures in
    let fit = RowFits (length (map (width_at c.args.terms.now) c.args.args.now)) c.args.table.now.default.width in
    let fits : fit row = row-at fit rows (c.loop-at.at - 1) row (let w = c.loop-at.invariant.within in let p = c.loop-at-test.true in omega arith) is
    (recursion_from_All fit rows c.requires.fits.0.rows) in
    choose-step c.args.terms.now c.loop-at.terms c.row_choice.new.terms c.args.table.now c.args.args.now c.loop-at.choices c.loop-at.at c.in_ok-choices-2.choices row
    c.loop-at-test.true is fits.1 inside c.loop-at.invariant c.row_choice.ensures.grown c.in_ok-choices-2.ensures.made
