use Rattle.std.proofs.Common.{map, take}
use Rattle.std.specs.Prelude.{flat_map}
use Rattle.cocoon_syntax.specs.TreeOf.{decl_of, design_of}
use Rattle.cocoon_types.specs.Noting.{Notes}
use Rattle.cocoon_types.specs.Rules.{unknown_role}
use Rattle.cocoon_types.specs.Among.{among}
use Rattle.name_rules.specs.Among.{unknown_named}
use Rattle.name_rules.proofs.unknown.note_in_level.Given as goal

abbrev pub invariant-loop-decl : goal.invariant-loop-decl
invariant-loop-decl l = Notes (among unknown_role (flat_map (unknown_named (design_of l.design) l.level) (map decl_of (take l.decl-index l.decls)))) l.fn.noted l.noted
