use Rattle.std.proofs.Common.{◌≡◌, List, ◌++◌, map, take}
use Rattle.cocoon_syntax.specs.TreeOf.{refine_of}
use Rattle.declarations.specs.Places.{Placed, placed_blocks}
use Rattle.declarations.specs.Declares.{Holds}
use Rattle.declarations.proofs.decl_table.DeclTable.append_blocks.Given as goal

abbrev pub invariant-loop-block : goal.invariant-loop-block
invariant-loop-block l = record {
  level : l.level ≡ l.block-index;
  held : (placed : List Placed) → Holds l.fn.self placed
      → Holds l.self (placed ++ placed_blocks 1 (map refine_of (take l.block-index l.blocks)));
}
