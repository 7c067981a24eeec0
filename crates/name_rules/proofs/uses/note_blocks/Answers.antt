use Rattle.std.proofs.Common.{◌≡◌, ◌++◌, ◌+◌, ◌<◌, ◌≤◌, length, map, drop, rules, refl, subst, sym, ap, ◌∙◌}
use Rattle.std.proofs.lemmas.List.{drop_all}
use Rattle.cocoon_syntax.specs.TreeOf.{decl_of, design_of, refine_of}
use Rattle.cocoon_types.specs.Design.{functions}
use Rattle.cocoon_types.specs.Noting.{Notes}
use Rattle.cocoon_types.specs.Sites.{sites_from, sites_of}
use Rattle.name_rules.specs.Tests.{in_decls}
use Rattle.name_rules.proofs.DeclSteps.{blocks_moved, blocks_step, decls_in, functions_in, longer}
use Rattle.name_rules.proofs.uses.note_blocks.Goals as goal

pub loop-block-init : goal.loop-block-init
loop-block-init c = λ before same all. (before, same, all, λ last h. h)

pub loop-block-preserved : goal.loop-block-preserved
loop-block-preserved c = λ before same all.
    let within : c.loop-block.block-index < length c.args.blocks.now = search rules in
    let d = design_of c.args.design.now in
    let held = c.loop-block.invariant before same all in
    let x = c.block-item.result in
    let more = functions_in (map decl_of x.decls.items) in
    let rest = blocks_moved c.args.blocks.now c.loop-block.block-index x (functions d) held.0 within c.block-item.is held.2 in (
      held.0 ++ more,
      longer c.loop-block.point.functions _ held.0 more held.1 (c.in_ok-functions.ensures.functions ∙ ap (λ ds. c.loop-block.point.functions + length (functions_in (map decl_of ds))) c.deref.ensures.value),
      rest,
      λ last h.
          held.3 last
          (blocks_step c.noting_laws.ensures d c.loop-block.point.level _ held.0 c.args.blocks.now c.loop-block.block-index x within c.block-item.is c.in_ok-level.ensures
          (subst (λ ds. Notes (in_decls (sites_of d c.loop-block.point.level held.0 (map decl_of ds))) c.loop-block.noted c.note_decls.new.noted) c.deref.ensures.value
          (c.in_ok-functions.ensures.noted held.0 (functions_in (decls_in (map refine_of (drop (c.loop-block.block-index + 1) c.args.blocks.now)))) held.1
          (subst (λ ds. functions d ≡ held.0 ++ functions_in (map decl_of ds) ++ functions_in (decls_in (map refine_of (drop (c.loop-block.block-index + 1) c.args.blocks.now)))) (sym c.deref.ensures.value) rest)))
          h),
    )

pub returns : goal.returns
returns c = λ before same all.
    let end : length c.args.blocks.now ≤ c.loop-block.block-index = search rules in
    let held = c.loop-block.invariant before same all in
    held.3 c.loop-block.noted
    (subst (λ xs. Notes (in_decls (sites_from (design_of c.args.design.now) c.loop-block.point.level held.0 (map refine_of xs))) c.loop-block.noted c.loop-block.noted) (sym (drop_all c.loop-block.block-index c.args.blocks.now end))
    (c.noting_laws.ensures.nothing _ c.loop-block.noted (λ f. refl)))
