use Rattle.std.proofs.Common.{map, take}
use Rattle.std.specs.Prelude.{flat_map}
use Rattle.cocoon_syntax.specs.TreeOf.{role_of}
use Rattle.cocoon_types.specs.FormRules.{declared_as}
use Rattle.cocoon_types.specs.Noting.{Notes}
use Rattle.cocoon_types.specs.Rules.{not_switch_form}
use Rattle.cocoon_types.specs.Among.{among}
use Rattle.form_rules.specs.Parts.{not_two_ports}
use Rattle.form_rules.proofs.switches.note_declared.Given as goal

abbrev pub invariant-loop-role : goal.invariant-loop-role
invariant-loop-role l = Notes (among not_switch_form (flat_map not_two_ports (declared_as l.name (map (λ r. role_of r.now) (take l.role-index l.roles))))) l.fn.noted l.noted
