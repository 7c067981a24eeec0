use Rattle.std.proofs.Common.{◌∙◌, ap, ap₂}
use Rattle.cocoon_num.specs.Names.{same_name}
use Rattle.cocoon_syntax.specs.TreeOf.{body_of, role_of}
use Rattle.cocoon_types.specs.Rules.{sink_form}
use Rattle.cocoon_types.specs.SameTrees.{same_truth}
use Rattle.form_rules.specs.Parts.{bodiless}
use Rattle.form_rules.proofs.Joined.{notes-more, noted-as, none-mapped}
use Rattle.form_rules.proofs.roles.note_bodiless.Goals as goal

pub loop-role-init : goal.loop-role-init
loop-role-init c = c.among_laws.ensures.none sink_form c.args.noted.now

pub loop-role-preserved : goal.loop-role-preserved
loop-role-preserved c =
    notes-more c.among_laws.ensures sink_form (bodiless c.args.sink.now) (λ r. role_of r.now) c.args.roles.now c.loop-role.role-index c.role-item.result
    c.args.noted.now c.loop-role.noted c.note_unless.new.noted c.loop-role-test.true c.role-item.is c.loop-role.invariant
    (noted-as sink_form c.role-item.result.now.name.at c.loop-role.noted c.note_unless.new.noted
    (c.is_truth-fits.ensures ∙ ap₂ same_truth (c.is_named.ensures ∙ ap (λ x. same_name x c.args.sink.now) c.bytes.ensures) (none-mapped body_of c.role-item.result.now.body c.is_none.result c.is_none.ensures))
    c.note_unless.ensures)
