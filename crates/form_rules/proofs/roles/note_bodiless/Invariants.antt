use Rattle.std.proofs.Common.{map, take}
use Rattle.std.specs.Prelude.{flat_map}
use Rattle.cocoon_syntax.specs.TreeOf.{role_of}
use Rattle.cocoon_types.specs.Noting.{Notes}
use Rattle.cocoon_types.specs.Rules.{sink_form}
use Rattle.cocoon_types.specs.Among.{among}
use Rattle.form_rules.specs.Parts.{bodiless}
use Rattle.form_rules.proofs.roles.note_bodiless.Given as goal

abbrev pub invariant-loop-role : goal.invariant-loop-role
invariant-loop-role l = Notes (among sink_form (flat_map (bodiless l.sink) (map (λ r. role_of r.now) (take l.role-index l.roles)))) l.fn.noted l.noted
