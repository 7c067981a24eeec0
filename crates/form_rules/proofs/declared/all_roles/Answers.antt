use Rattle.std.proofs.Common.{◌∙◌, ◌++◌, ◌≡◌, ◌+◌, map, take, sym, ap, subst}
use Rattle.std.specs.Prelude.{filter_map, flat_map}
use Rattle.cocoon_num.specs.Tree.{Refine}
use Rattle.cocoon_syntax.specs.TreeOf.{decl_of, refine_of, role_of}
use Rattle.cocoon_types.specs.Design.{as_role}
use Rattle.form_rules.proofs.Joined.{block_pushed}
use Rattle.form_rules.proofs.declared.all_roles.Goals as goal

pub loop-block-preserved : goal.loop-block-preserved
loop-block-preserved c =
    subst (λ bs. map (λ r. role_of r.now) c.push_roles-in-loop-block.new.roles.items
    ≡ filter_map as_role (map decl_of c.args.design.now.decls.items ++ flat_map (λ (b : Refine). b.decls) (map refine_of (take (c.loop-block.block-index + 1) bs)))) c.deref-block-items.ensures.value
    (block_pushed as_role refine_of (map decl_of c.args.design.now.decls.items) c.deref-block-items.result.now c.loop-block.block-index c.block-item.result
    (map (λ r. role_of r.now) c.loop-block.roles.items) (map (λ r. role_of r.now) c.push_roles-in-loop-block.new.roles.items)
    c.loop-block-test.true c.block-item.is
    (c.loop-block.invariant ∙ ap (λ bs. filter_map as_role (map decl_of c.args.design.now.decls.items ++ flat_map (λ (b : Refine). b.decls) (map refine_of (take c.loop-block.block-index bs)))) (sym c.deref-block-items.ensures.value))
    (c.in_ok-push_roles-2.ensures ∙ ap (λ ds. map (λ r. role_of r.now) c.loop-block.roles.items ++ filter_map as_role (map decl_of ds)) c.deref-in-loop-block.ensures.value))
