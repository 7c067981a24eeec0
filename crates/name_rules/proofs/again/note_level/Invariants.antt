use Rattle.std.proofs.Common.{List, ◌++◌, map, take}
use Rattle.cocoon_num.specs.Tree.{Name}
use Rattle.cocoon_syntax.specs.TreeOf.{decl_of}
use Rattle.cocoon_types.specs.Noting.{Notes}
use Rattle.cocoon_types.specs.Rules.{twice}
use Rattle.cocoon_types.specs.RuleParts.{repeated}
use Rattle.cocoon_types.specs.Among.{among}
use Rattle.name_rules.specs.Among.{Seen, function_names}
use Rattle.name_rules.proofs.again.note_level.Given as goal

abbrev pub invariant-loop-decl : goal.invariant-loop-decl
invariant-loop-decl l = record {
  kept : (names : List Name) → Seen l.fn.table names → Seen l.table (names ++ function_names (map decl_of (take l.decl-index l.decls)));
  notes : (names : List Name) → Seen l.fn.table names
      → Notes (among twice (repeated names (function_names (map decl_of (take l.decl-index l.decls))))) l.fn.noted l.noted;
}
