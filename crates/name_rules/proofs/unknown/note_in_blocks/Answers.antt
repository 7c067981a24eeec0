use Rattle.std.proofs.Common.{map, take, subst, sym, arith}
use Rattle.std.specs.Prelude.{flat_map}
use Rattle.cocoon_syntax.specs.TreeOf.{decl_of, design_of, refine_of}
use Rattle.cocoon_types.specs.Noting.{Notes}
use Rattle.cocoon_types.specs.RuleParts.{blocks_from}
use Rattle.cocoon_types.specs.Rules.{unknown_role}
use Rattle.cocoon_types.specs.Among.{among}
use Rattle.name_rules.specs.Among.{unknown_in_block, unknown_named}
use Rattle.name_rules.proofs.ListedFacts.{blocks-more}
use Rattle.name_rules.proofs.unknown.note_in_blocks.Goals as goal

pub loop-block-preserved : goal.loop-block-preserved
loop-block-preserved c =
    let d = design_of c.args.design.now in
    record {
      level = omega (arith, c.in_ok-level.ensures, c.loop-block.invariant.level);
      notes = subst (λ l. Notes (among unknown_role l) c.args.noted.now c.note_in_level.new.noted)
          (sym (blocks-more (unknown_in_block d) 1 refine_of c.args.blocks.now c.loop-block.block-index c.loop-block.level c.block-item.result c.loop-block-test.true c.block-item.is c.loop-block.invariant.level))
          (c.among_laws.ensures.append unknown_role (blocks_from (unknown_in_block d) 1 (map refine_of (take c.loop-block.block-index c.args.blocks.now))) (unknown_in_block d c.loop-block.level (refine_of c.block-item.result)) c.args.noted.now c.loop-block.noted c.note_in_level.new.noted c.loop-block.invariant.notes
          (subst (λ l. Notes (among unknown_role (flat_map (unknown_named d c.loop-block.level) (map decl_of l))) c.loop-block.noted c.note_in_level.new.noted) c.deref.ensures.value c.note_in_level.ensures));
    }
