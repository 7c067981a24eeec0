use Rattle.std.proofs.Common.{◌<◌, ◌^◌, List, slice_index, length, refl, ap, sym, subst, ℕ}
use Rattle.std.proofs.lemmas.List.Elements.{recursion_from_All}
use Rattle.bv_terms.specs.TermTrees.{width}
use Rattle.bv_terms.specs.Arenas.{width_at}
use Rattle.bv_terms.proofs.Growing.{grows-both}
use Rattle.bv_terms.proofs.Choices.{below-at, mask-fits, masks-count, test-step}
use Rattle.bv_terms.proofs.rows.row_test.Goals as goal

pub position_test-requires-in-loop-at-clause-fits : goal.position_test-requires-in-loop-at-clause-fits
position_test-requires-in-loop-at-clause-fits c =
    let a = slice_index c.args.args.now c.loop-at.at in
    let here : a < length c.args.terms.now
    = below-at (length c.args.terms.now) c.args.args.now c.loop-at.at (recursion_from_All (λ k. k < length c.args.terms.now) c.args.args.now c.requires.there) c.loop-at-test.true in
    subst (λ ms. slice_index ms c.loop-at.at < 2 ^ width_at c.loop-at.terms a) (sym c.items-masks.ensures)
    (subst (λ w. slice_index c.args.row.now.masks c.loop-at.at < 2 ^ w) (sym (ap width (c.loop-at.invariant.grown.kept.terms a here)))
    (mask-fits (width_at c.args.terms.now) c.args.args.now c.args.row.now.masks c.loop-at.at c.requires.masks c.loop-at-test.true))

pub returns-in_err-test-2-clause-grown : goal.returns-in_err-test-2-clause-grown
returns-in_err-test-2-clause-grown c =
    grows-both _ _ _ c.loop-at.invariant.grown (grows-both _ _ _ c.position_test-in-loop-at.ensures.grown c.joined.ensures.grown)

pub loop-at-preserved : goal.loop-at-preserved
loop-at-preserved c =
    let count = masks-count (width_at c.args.terms.now) c.args.args.now c.args.row.now.masks c.requires.masks in
    test-step c.args.terms.now c.loop-at.terms c.position_test-in-loop-at.new.terms c.joined.new.terms c.args.row.now c.args.args.now c.loop-at.test c.loop-at.at
    c.in_ok-next.next c.in_ok-test-2.test _ _ _ c.loop-at-test.true c.requires.values count
    (recursion_from_All (λ k. k < length c.args.terms.now) c.args.args.now c.requires.there)
    (ap (λ (xs : List ℕ). slice_index xs c.loop-at.at) c.items-values.ensures) (ap (λ (xs : List ℕ). slice_index xs c.loop-at.at) c.items-masks.ensures) refl c.loop-at.invariant
    c.position_test-in-loop-at.ensures.grown c.joined.ensures.grown c.in_ok-next.ensures.made c.in_ok-test-2.ensures.made
