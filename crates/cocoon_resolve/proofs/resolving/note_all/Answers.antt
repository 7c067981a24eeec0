use Rattle.cocoon_syntax.specs.TreeOf.{design_of}
use Rattle.cocoon_types.specs.FirstFault.{is_fault}
use Rattle.cocoon_resolve.proofs.Phases.{names, types, forms}
use Rattle.cocoon_resolve.proofs.resolving.note_all.Goals as goal

pub returns : goal.returns
returns c = c.noting_laws.ensures.first (is_fault (design_of c.args.design.now)) c.note_forms.new.noted
    (forms c.noting_laws.ensures (design_of c.args.design.now) c.note_types.new.noted c.note_forms.new.noted
    (types c.noting_laws.ensures (design_of c.args.design.now) c.note_names.new.noted c.note_types.new.noted
    (names c.noting_laws.ensures (design_of c.args.design.now) c.new-noted.result c.note_names.new.noted c.new-noted.ensures c.in_ok-note_names.ensures)
    c.in_ok-note_types.ensures)
    c.in_ok-note_forms.ensures)
