use Rattle.std.proofs.Common.{List, ◌++◌, map, take}
use Rattle.cocoon_num.specs.Tree.{Name}
use Rattle.cocoon_syntax.specs.TreeOf.{refine_of}
use Rattle.cocoon_types.specs.Noting.{Notes}
use Rattle.cocoon_types.specs.Rules.{twice}
use Rattle.cocoon_types.specs.RuleParts.{repeated}
use Rattle.cocoon_types.specs.Among.{among}
use Rattle.name_rules.specs.Among.{Seen, block_functions}
use Rattle.name_rules.proofs.again.note_blocks.Given as goal

abbrev pub invariant-loop-block : goal.invariant-loop-block
invariant-loop-block l = record {
  kept : (names : List Name) → Seen l.fn.table names → Seen l.table (names ++ block_functions (map refine_of (take l.block-index l.blocks)));
  notes : (names : List Name) → Seen l.fn.table names
      → Notes (among twice (repeated names (block_functions (map refine_of (take l.block-index l.blocks))))) l.fn.noted l.noted;
}
