use Rattle.cocoon_syntax.specs.TreeOf.{design_of}
use Rattle.cocoon_types.specs.Rules.{guard_form}
use Rattle.form_rules.specs.Guards.{host_guards, switch_guards}
use Rattle.form_rules.proofs.guards.note_guard_form.Goals as goal

pub returns : goal.returns
returns c =
    c.among_laws.ensures.append guard_form (host_guards (design_of c.args.design.now)) (switch_guards (design_of c.args.design.now))
    c.args.noted.now c.note_host_guards.new.noted c.note_switch_guards.new.noted c.note_host_guards.ensures c.note_switch_guards.ensures
