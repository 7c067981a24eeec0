use Rattle.cocoon_syntax.specs.TreeOf.{design_of, name_of}
use Rattle.cocoon_types.specs.Rules.{hidden_choice}
use Rattle.form_rules.specs.Parts.{hidden_of}
use Rattle.form_rules.proofs.Joined.{notes-more}
use Rattle.form_rules.proofs.hidden.note_roles.Goals as goal

pub loop-role-init : goal.loop-role-init
loop-role-init c = c.among_laws.ensures.none hidden_choice c.args.noted.now

pub loop-role-preserved : goal.loop-role-preserved
loop-role-preserved c =
    notes-more c.among_laws.ensures hidden_choice (hidden_of (design_of c.args.design.now) c.args.above) name_of c.args.roles.now c.loop-role.role-index c.role-item.result
    c.args.noted.now c.loop-role.noted c.note_role.new.noted c.loop-role-test.true c.role-item.is c.loop-role.invariant c.in_ok-note_role.ensures
