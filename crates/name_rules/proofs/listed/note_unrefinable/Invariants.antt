use Rattle.std.proofs.Common.{List, map, take}
use Rattle.std.specs.Prelude.{flat_map}
use Rattle.cocoon_num.specs.Tree.{Name}
use Rattle.cocoon_syntax.specs.TreeOf.{design_of, name_of}
use Rattle.cocoon_types.specs.Noting.{Notes}
use Rattle.cocoon_types.specs.Rules.{not_refinable}
use Rattle.cocoon_types.specs.Among.{among}
use Rattle.name_rules.specs.Among.{Seen, unrefinable}
use Rattle.name_rules.proofs.listed.note_unrefinable.Given as goal

abbrev pub invariant-loop-role : goal.invariant-loop-role
invariant-loop-role l = (declared : List Name) → Seen l.table declared → Notes (among not_refinable (flat_map (unrefinable (design_of l.design) l.above declared) (map name_of (take l.role-index l.roles)))) l.fn.noted l.noted
