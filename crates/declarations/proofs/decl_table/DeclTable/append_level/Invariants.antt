use Rattle.std.proofs.Common.{◌≡◌, List, ◌++◌, map, take}
use Rattle.cocoon_syntax.specs.TreeOf.{decl_of}
use Rattle.declarations.specs.Places.{Placed, placed_from}
use Rattle.declarations.specs.Declares.{Holds}
use Rattle.declarations.proofs.decl_table.DeclTable.append_level.Given as goal

abbrev pub invariant-loop-decl : goal.invariant-loop-decl
invariant-loop-decl l = record {
  index : l.index ≡ l.decl-index;
  held : (placed : List Placed) → Holds l.fn.self placed
      → Holds l.self (placed ++ placed_from l.level 0 (map decl_of (take l.decl-index l.decls)));
}
