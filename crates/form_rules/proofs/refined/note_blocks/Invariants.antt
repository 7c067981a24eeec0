use Rattle.std.proofs.Common.{◌≡◌, map, take}
use Rattle.cocoon_syntax.specs.TreeOf.{design_of, refine_of}
use Rattle.cocoon_types.specs.FormRules.{changed_in}
use Rattle.cocoon_types.specs.Noting.{Notes}
use Rattle.cocoon_types.specs.RuleParts.{blocks_from}
use Rattle.cocoon_types.specs.Rules.{header_changed}
use Rattle.cocoon_types.specs.Among.{among}
use Rattle.form_rules.proofs.refined.note_blocks.Given as goal

abbrev pub invariant-loop-block : goal.invariant-loop-block
invariant-loop-block l = record {
  level : l.above ≡ l.block-index;
  notes : Notes (among header_changed (blocks_from (changed_in (design_of l.design)) 0 (map refine_of (take l.block-index l.blocks)))) l.fn.noted l.noted;
}
