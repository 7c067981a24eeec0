use Rattle.std.proofs.Common.{map, take}
use Rattle.std.specs.Prelude.{flat_map}
use Rattle.cocoon_types.specs.Noting.{Notes}
use Rattle.cocoon_syntax.specs.TreeOf.{name_of}
use Rattle.cocoon_types.specs.Rules.{sink_refined}
use Rattle.cocoon_types.specs.Among.{among}
use Rattle.name_rules.specs.Among.{unless_other}
use Rattle.name_rules.proofs.refined.note_sink_in.Given as goal

abbrev pub invariant-loop-role : goal.invariant-loop-role
invariant-loop-role l = Notes (among sink_refined (flat_map (unless_other (name_of l.sink)) (map name_of (take l.role-index l.roles)))) l.fn.noted l.noted
