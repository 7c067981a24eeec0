use Rattle.std.proofs.Common.{map, take}
use Rattle.std.specs.Prelude.{flat_map}
use Rattle.cocoon_syntax.specs.TreeOf.{design_of, name_of}
use Rattle.cocoon_types.specs.Noting.{Notes}
use Rattle.cocoon_types.specs.Rules.{hidden_choice}
use Rattle.cocoon_types.specs.Among.{among}
use Rattle.form_rules.specs.Parts.{hidden_of}
use Rattle.form_rules.proofs.hidden.note_roles.Given as goal

abbrev pub invariant-loop-role : goal.invariant-loop-role
invariant-loop-role l = Notes (among hidden_choice (flat_map (hidden_of (design_of l.design) l.above) (map name_of (take l.role-index l.roles)))) l.fn.noted l.noted
