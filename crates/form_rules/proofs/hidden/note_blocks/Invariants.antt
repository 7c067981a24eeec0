use Rattle.std.proofs.Common.{◌≡◌, map, take}
use Rattle.cocoon_syntax.specs.TreeOf.{design_of, refine_of}
use Rattle.cocoon_types.specs.FormRules.{hidden_above}
use Rattle.cocoon_types.specs.Noting.{Notes}
use Rattle.cocoon_types.specs.RuleParts.{blocks_from}
use Rattle.cocoon_types.specs.Rules.{hidden_choice}
use Rattle.cocoon_types.specs.Among.{among}
use Rattle.form_rules.proofs.hidden.note_blocks.Given as goal

abbrev pub invariant-loop-block : goal.invariant-loop-block
invariant-loop-block l = record {
  level : l.above ≡ l.block-index;
  notes : Notes (among hidden_choice (blocks_from (hidden_above (design_of l.design)) 0 (map refine_of (take l.block-index l.blocks)))) l.fn.noted l.noted;
}
