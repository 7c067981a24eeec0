use Rattle.std.proofs.Common.{◌≡◌, map, take}
use Rattle.cocoon_syntax.specs.TreeOf.{design_of, refine_of}
use Rattle.cocoon_types.specs.Noting.{Notes}
use Rattle.cocoon_types.specs.RuleParts.{blocks_from}
use Rattle.cocoon_types.specs.Rules.{twice}
use Rattle.cocoon_types.specs.Among.{among}
use Rattle.name_rules.specs.Among.{again_in_block}
use Rattle.name_rules.proofs.redeclared.note_in_blocks.Given as goal

abbrev pub invariant-loop-block : goal.invariant-loop-block
invariant-loop-block l = record {
  above : l.above ≡ l.block-index;
  notes : Notes (among twice (blocks_from (again_in_block (design_of l.design)) 0 (map refine_of (take l.block-index l.blocks)))) l.fn.noted l.noted;
}
