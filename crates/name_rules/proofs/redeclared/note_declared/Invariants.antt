use Rattle.std.proofs.Common.{List, [], map, take}
use Rattle.cocoon_num.specs.Tree.{Name}
use Rattle.cocoon_syntax.specs.TreeOf.{decl_of, design_of}
use Rattle.cocoon_types.specs.Noting.{Notes}
use Rattle.cocoon_types.specs.RuleParts.{role_names}
use Rattle.cocoon_types.specs.Rules.{twice}
use Rattle.cocoon_types.specs.Among.{among}
use Rattle.name_rules.specs.Among.{Seen, declared_again, may_stand}
use Rattle.name_rules.proofs.redeclared.note_declared.Given as goal

abbrev pub invariant-loop-decl : goal.invariant-loop-decl
invariant-loop-decl l = record {
  kept : Seen l.seen (role_names (map decl_of (take l.decl-index l.decls)));
  notes : (list : List Name) → Seen l.listed list
      → Notes (among twice (declared_again (may_stand (design_of l.design) l.above list) [] (role_names (map decl_of (take l.decl-index l.decls))))) l.fn.noted l.noted;
}
