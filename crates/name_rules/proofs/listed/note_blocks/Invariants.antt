use Rattle.std.proofs.Common.{◌≡◌, map, take}
use Rattle.cocoon_syntax.specs.TreeOf.{design_of, refine_of}
use Rattle.cocoon_types.specs.Noting.{Notes}
use Rattle.cocoon_types.specs.Rules.{not_refinable}
use Rattle.cocoon_types.specs.RuleParts.{blocks_from}
use Rattle.cocoon_types.specs.NameRules.{not_refinable_in}
use Rattle.cocoon_types.specs.Among.{among}
use Rattle.name_rules.proofs.listed.note_blocks.Given as goal

abbrev pub invariant-loop-block : goal.invariant-loop-block
invariant-loop-block l = record {
  above : l.above ≡ l.block-index;
  notes : Notes (among not_refinable (blocks_from (not_refinable_in (design_of l.design)) 0 (map refine_of (take l.block-index l.blocks)))) l.fn.noted l.noted;
}
