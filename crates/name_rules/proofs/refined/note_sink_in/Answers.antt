use Rattle.std.proofs.Common.{subst, ap, ap₂, ◌∙◌, not}
use Rattle.std.specs.Prelude.{bytes_eq}
use Rattle.cocoon_types.specs.Noting.{Notes}
use Rattle.cocoon_syntax.specs.TreeOf.{name_of}
use Rattle.cocoon_types.specs.Rules.{sink_refined}
use Rattle.cocoon_types.specs.RuleParts.{unless}
use Rattle.cocoon_types.specs.Among.{among}
use Rattle.name_rules.proofs.AgainFacts.{bytes_same}
use Rattle.name_rules.specs.Among.{unless_other}
use Rattle.name_rules.proofs.AmongFacts.{notes-more}
use Rattle.name_rules.proofs.refined.note_sink_in.Goals as goal

pub loop-role-init : goal.loop-role-init
loop-role-init c = c.among_laws.ensures.none sink_refined c.args.noted.now

pub loop-role-preserved : goal.loop-role-preserved
loop-role-preserved c = notes-more c.among_laws.ensures sink_refined (unless_other (name_of c.args.sink.now)) name_of c.args.roles.now c.loop-role.role-index c.role-item.result c.args.noted.now c.loop-role.noted c.note_unless.new.noted c.loop-role-test.true c.role-item.is c.loop-role.invariant (subst (λ b. Notes (among sink_refined (unless b c.role-item.result.at)) c.loop-role.noted c.note_unless.new.noted) (c.ne-other.ensures ∙ ap not (ap₂ bytes_eq c.bytes.ensures c.bytes-in-loop-role.ensures ∙ bytes_same c.role-item.result.text c.args.sink.now.text)) c.note_unless.ensures)
