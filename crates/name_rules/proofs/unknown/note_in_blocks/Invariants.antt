use Rattle.std.proofs.Common.{◌≡◌, ◌+◌, map, take}
use Rattle.cocoon_syntax.specs.TreeOf.{design_of, refine_of}
use Rattle.cocoon_types.specs.Noting.{Notes}
use Rattle.cocoon_types.specs.RuleParts.{blocks_from}
use Rattle.cocoon_types.specs.Rules.{unknown_role}
use Rattle.cocoon_types.specs.Among.{among}
use Rattle.name_rules.specs.Among.{unknown_in_block}
use Rattle.name_rules.proofs.unknown.note_in_blocks.Given as goal

abbrev pub invariant-loop-block : goal.invariant-loop-block
invariant-loop-block l = record {
  level : l.level ≡ 1 + l.block-index;
  notes : Notes (among unknown_role (blocks_from (unknown_in_block (design_of l.design)) 1 (map refine_of (take l.block-index l.blocks)))) l.fn.noted l.noted;
}
