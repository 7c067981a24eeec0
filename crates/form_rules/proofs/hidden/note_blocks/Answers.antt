use Rattle.std.proofs.Common.{map, subst, arith}
use Rattle.std.specs.Prelude.{flat_map}
use Rattle.cocoon_syntax.specs.TreeOf.{design_of, name_of, refine_of}
use Rattle.cocoon_types.specs.FormRules.{hidden_above}
use Rattle.cocoon_types.specs.Noting.{Notes}
use Rattle.cocoon_types.specs.Rules.{hidden_choice}
use Rattle.cocoon_types.specs.Among.{among}
use Rattle.form_rules.specs.Parts.{hidden_of}
use Rattle.form_rules.proofs.Joined.{blocks-noted}
use Rattle.form_rules.proofs.hidden.note_blocks.Goals as goal

pub loop-block-preserved : goal.loop-block-preserved
loop-block-preserved c = record {
  level = omega (arith, c.in_ok-above.ensures, c.loop-block.invariant.level);
  notes = blocks-noted c.among_laws.ensures hidden_choice (hidden_above (design_of c.args.design.now)) refine_of c.args.blocks.now c.loop-block.block-index c.loop-block.above c.block-item.result
      c.args.noted.now c.loop-block.noted c.note_roles.new.noted c.loop-block-test.true c.block-item.is c.loop-block.invariant.level c.loop-block.invariant.notes
      (subst (λ l. Notes (among hidden_choice (flat_map (hidden_of (design_of c.args.design.now) c.loop-block.above) (map name_of l))) c.loop-block.noted c.note_roles.new.noted) c.deref.ensures.value c.in_ok-note_roles.ensures);
}
