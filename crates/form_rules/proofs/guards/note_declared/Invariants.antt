use Rattle.std.proofs.Common.{map, take}
use Rattle.std.specs.Prelude.{flat_map}
use Rattle.cocoon_syntax.specs.TreeOf.{design_of, role_of}
use Rattle.cocoon_types.specs.FormRules.{declared_as}
use Rattle.cocoon_types.specs.Noting.{Notes}
use Rattle.cocoon_types.specs.Rules.{guard_form}
use Rattle.cocoon_types.specs.Among.{among}
use Rattle.form_rules.specs.Guards.{other_guard}
use Rattle.form_rules.proofs.guards.note_declared.Given as goal

abbrev pub invariant-loop-role : goal.invariant-loop-role
invariant-loop-role l = Notes (among guard_form (flat_map (other_guard (design_of l.design) l.form (role_of l.first)) (declared_as l.name (map (λ r. role_of r.now) (take l.role-index l.roles))))) l.fn.noted l.noted
