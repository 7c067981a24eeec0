use Rattle.std.proofs.Common.{suc, ◌++◌, ◌<◌, ◌≤◌, length, map, rules, refl, subst, sym}
use Rattle.std.specs.Prelude.{filter_map}
use Rattle.std.proofs.lemmas.List.{drop_all}
use Rattle.cocoon_syntax.specs.TreeOf.{decl_of, design_of, refine_of}
use Rattle.cocoon_types.specs.Design.{as_function}
use Rattle.cocoon_types.specs.Noting.{Notes}
use Rattle.cocoon_types.specs.Sites.{sites_of}
use Rattle.type_rules.specs.Tests.{in_blocks, in_decls}
use Rattle.type_rules.proofs.DeclSteps.{blocks_step}
use Rattle.type_rules.proofs.types.note_blocks.Goals as goal

pub loop-block-init : goal.loop-block-init
loop-block-init c = λ level before. (level, before, λ last h. h)

pub loop-block-preserved : goal.loop-block-preserved
loop-block-preserved c = λ level before.
    let within : c.loop-block.block-index < length c.args.blocks.now = search rules in
    let held = c.loop-block.invariant level before in
    let x = c.block-item.result in (
      suc held.0,
      held.1 ++ filter_map as_function (map decl_of x.decls.items),
      λ last h.
          held.2 last (blocks_step c.noting_laws.ensures (design_of c.args.design.now) held.0 held.1 c.args.blocks.now c.loop-block.block-index x within c.block-item.is
          c.note_if.ensures
          (subst (λ ds. Notes (in_decls (sites_of (design_of c.args.design.now) held.0 held.1 (map decl_of ds))) c.note_if.new.noted c.note_decls.new.noted) c.deref.ensures.value (c.in_ok-note_decls.ensures held.0 held.1))
          h),
    )

pub returns : goal.returns
returns c = λ level before.
    let all : length c.args.blocks.now ≤ c.loop-block.block-index = search rules in
    let held = c.loop-block.invariant level before in
    held.2 c.loop-block.noted
    (subst (λ xs. Notes (in_blocks (design_of c.args.design.now) held.0 held.1 (map refine_of xs)) c.loop-block.noted c.loop-block.noted) (sym (drop_all c.loop-block.block-index c.args.blocks.now all))
    (c.noting_laws.ensures.nothing _ c.loop-block.noted (λ f. refl)))
