use Rattle.std.proofs.Common.{map, take}
use Rattle.cocoon_syntax.specs.TreeOf.{decl_of}
use Rattle.cocoon_types.specs.RuleParts.{role_names}
use Rattle.name_rules.specs.Among.{Seen}
use Rattle.name_rules.proofs.listed.declared.Given as goal

abbrev pub invariant-loop-decl : goal.invariant-loop-decl
invariant-loop-decl l = Seen l.table (role_names (map decl_of (take l.decl-index l.decls)))
