use Rattle.std.proofs.Common.{map, take, subst, sym, arith}
use Rattle.cocoon_syntax.specs.TreeOf.{design_of, refine_of}
use Rattle.cocoon_types.specs.Noting.{Notes}
use Rattle.cocoon_types.specs.RuleParts.{blocks_from}
use Rattle.cocoon_types.specs.Rules.{twice}
use Rattle.cocoon_types.specs.Among.{among}
use Rattle.name_rules.specs.Among.{again_in_block}
use Rattle.name_rules.proofs.ListedFacts.{blocks-more}
use Rattle.name_rules.proofs.redeclared.note_in_blocks.Goals as goal

pub loop-block-preserved : goal.loop-block-preserved
loop-block-preserved c =
    let rule = again_in_block (design_of c.args.design.now) in
    record {
      above = omega (arith, c.in_ok-above.ensures, c.loop-block.invariant.above);
      notes = subst (λ l. Notes (among twice l) c.args.noted.now c.note_in_block.new.noted)
          (sym (blocks-more rule 0 refine_of c.args.blocks.now c.loop-block.block-index c.loop-block.above c.block-item.result c.loop-block-test.true c.block-item.is (omega (arith, c.loop-block.invariant.above))))
          (c.among_laws.ensures.append twice (blocks_from rule 0 (map refine_of (take c.loop-block.block-index c.args.blocks.now))) (rule c.loop-block.above (refine_of c.block-item.result)) c.args.noted.now c.loop-block.noted c.note_in_block.new.noted c.loop-block.invariant.notes c.in_ok-note_in_block.ensures);
    }
