use Rattle.std.proofs.Common.{◌∷◌, [], ◌++◌, ◌+◌, length, map, sym, ap, subst, ◌∙◌}
use Rattle.std.proofs.lemmas.List.{length-map}
use Rattle.std.specs.Prelude.{filter_map}
use Rattle.cocoon_syntax.specs.TreeOf.{assume_of, decl_of, design_of, refine_of}
use Rattle.cocoon_types.specs.Limits.{as_assumption}
use Rattle.cocoon_resolve.specs.Kept.{HoldsTo}
use Rattle.cocoon_resolve.proofs.Levels.{assumptions-more, holds-more}
use Rattle.cocoon_resolve.proofs.assumptions.Assumptions.new.Goals as goal

pub loop-block-preserved : goal.loop-block-preserved
loop-block-preserved c = subst (HoldsTo (c.loop-block.block-index + 1) (design_of c.args.design.now) (map assume_of c.append_level-in-loop-block.new.held.items))
    (sym (c.in_ok-push-2.ensures.items ∙ ap (λ n. c.loop-block.counts.items ++ n ∷ []) (c.in_ok-count-2.ensures ∙ ap length c.deref-in-loop-block-2.ensures.value ∙ sym (length-map c.append_level-in-loop-block.new.held.items assume_of))))
    (holds-more c.loop-block.block-index (design_of c.args.design.now) (map assume_of c.loop-block.held.items) (map assume_of c.append_level-in-loop-block.new.held.items) c.loop-block.counts.items c.loop-block.invariant
    (c.in_ok-append_level-2.ensures ∙ ap (λ ds. map assume_of c.loop-block.held.items ++ filter_map as_assumption (map decl_of ds)) c.deref-in-loop-block.ensures.value
    ∙ ap (λ l. l ++ filter_map as_assumption (map decl_of c.block-item.result.decls.items)) c.loop-block.invariant.assumptions
    ∙ sym (assumptions-more (design_of c.args.design.now) refine_of c.deref-block-items.result.now c.loop-block.block-index c.block-item.result (ap (map refine_of) (sym c.deref-block-items.ensures.value)) c.loop-block-test.true c.block-item.is)))
