use Rattle.cocoon_syntax.specs.TreeOf.{design_of}
use Rattle.form_rules.proofs.Phase.{phase_noted}
use Rattle.form_rules.proofs.forms.note_forms.Goals as goal

pub returns : goal.returns
returns c =
    phase_noted c.noting_laws.ensures (design_of c.args.design.now) c.args.noted.now c.note_sink_form.new.noted c.note_header_changed.new.noted c.note_guard_form.new.noted c.note_not_switch_form.new.noted c.note_bodies.new.noted c.note_hidden_choice.new.noted
    c.note_sink_form.ensures c.in_ok-note_header_changed.ensures c.note_guard_form.ensures c.note_not_switch_form.ensures c.in_ok-note_bodies.ensures c.in_ok-note_hidden_choice.ensures
