use Rattle.std.proofs.Common.{map, take}
use Rattle.cocoon_syntax.specs.TreeOf.{decl_of}
use Rattle.cocoon_types.specs.Noting.{Notes}
use Rattle.cocoon_types.specs.RuleParts.{role_names}
use Rattle.cocoon_types.specs.Rules.{twice}
use Rattle.cocoon_types.specs.Among.{among}
use Rattle.name_rules.specs.Among.{Seen, again_outside}
use Rattle.name_rules.proofs.redeclared.note_outside.Given as goal

abbrev pub invariant-loop-decl : goal.invariant-loop-decl
invariant-loop-decl l = record {
  kept : Seen l.seen (role_names (map decl_of (take l.decl-index l.decls)));
  notes : Notes (among twice (again_outside (map decl_of (take l.decl-index l.decls)))) l.fn.noted l.noted;
}
