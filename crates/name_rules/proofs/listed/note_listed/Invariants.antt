use Rattle.std.proofs.Common.{[], map, take}
use Rattle.cocoon_syntax.specs.TreeOf.{name_of}
use Rattle.cocoon_types.specs.Noting.{Notes}
use Rattle.cocoon_types.specs.Rules.{not_refinable}
use Rattle.cocoon_types.specs.RuleParts.{repeated}
use Rattle.cocoon_types.specs.Among.{among}
use Rattle.name_rules.specs.Among.{Seen}
use Rattle.name_rules.proofs.listed.note_listed.Given as goal

abbrev pub invariant-loop-role : goal.invariant-loop-role
invariant-loop-role l = record {
  kept : Seen l.table (map name_of (take l.role-index l.roles));
  notes : Notes (among not_refinable (repeated [] (map name_of (take l.role-index l.roles)))) l.fn.noted l.noted;
}
