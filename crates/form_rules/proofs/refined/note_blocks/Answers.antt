use Rattle.std.proofs.Common.{map, subst, arith}
use Rattle.std.specs.Prelude.{filter_map, flat_map}
use Rattle.cocoon_syntax.specs.TreeOf.{decl_of, design_of, refine_of}
use Rattle.cocoon_types.specs.Design.{as_role}
use Rattle.cocoon_types.specs.FormRules.{changed_in}
use Rattle.cocoon_types.specs.Noting.{Notes}
use Rattle.cocoon_types.specs.Rules.{header_changed}
use Rattle.cocoon_types.specs.Among.{among}
use Rattle.form_rules.specs.Parts.{changed}
use Rattle.form_rules.proofs.Joined.{blocks-noted}
use Rattle.form_rules.proofs.refined.note_blocks.Goals as goal

pub loop-block-preserved : goal.loop-block-preserved
loop-block-preserved c = record {
  level = omega (arith, c.in_ok-above.ensures, c.loop-block.invariant.level);
  notes = blocks-noted c.among_laws.ensures header_changed (changed_in (design_of c.args.design.now)) refine_of c.args.blocks.now c.loop-block.block-index c.loop-block.above c.block-item.result
      c.args.noted.now c.loop-block.noted c.note_decls.new.noted c.loop-block-test.true c.block-item.is c.loop-block.invariant.level c.loop-block.invariant.notes
      (subst (λ l. Notes (among header_changed (flat_map (changed (design_of c.args.design.now) c.loop-block.above) (filter_map as_role (map decl_of l)))) c.loop-block.noted c.note_decls.new.noted) c.deref.ensures.value c.note_decls.ensures);
}
