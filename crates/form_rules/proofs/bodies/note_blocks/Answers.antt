use Rattle.std.proofs.Common.{◌++◌, ◌+◌, map, take, subst, sym, append-nil}
use Rattle.cocoon_syntax.specs.TreeOf.{decl_of, design_of, refine_of}
use Rattle.form_rules.specs.Walked.{Walked, block_decls, role_names_in}
use Rattle.form_rules.proofs.WalkFacts.{level-more, taken-decls}
use Rattle.form_rules.proofs.bodies.note_blocks.Goals as goal

pub loop-block-init : goal.loop-block-init
loop-block-init c = λ xs start h. subst (λ l. Walked (design_of c.args.design.now) c.args.seen.now l start c.args.noted.now) (sym (append-nil xs)) h

pub loop-block-preserved : goal.loop-block-preserved
loop-block-preserved c = λ xs start h.
    let before = block_decls (map refine_of (take c.loop-block.block-index c.args.blocks.now)) in
    level-more (design_of c.args.design.now) c.note_level.new.seen xs before (map decl_of c.block-item.result.decls.items) (block_decls (map refine_of (take (c.loop-block.block-index + 1) c.args.blocks.now)))
    (taken-decls refine_of c.args.blocks.now c.loop-block.block-index c.block-item.result c.loop-block-test.true c.block-item.is)
    (subst (λ l. Walked (design_of c.args.design.now) c.note_level.new.seen ((xs ++ role_names_in before) ++ role_names_in (map decl_of l)) start c.note_level.new.noted) c.deref.ensures.value
    (c.in_ok-note_level.ensures (xs ++ role_names_in before) start (c.loop-block.invariant xs start h)))
