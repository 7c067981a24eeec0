use Rattle.std.proofs.Common.{◌||◌, sym}
use Rattle.cocoon_syntax.specs.TreeOf.{design_of}
use Rattle.cocoon_types.specs.FirstFault.{is_fault_of}
use Rattle.cocoon_types.specs.Rules.{twice}
use Rattle.cocoon_types.specs.Among.{among}
use Rattle.name_rules.specs.Uses.{is_use_fault}
use Rattle.name_rules.specs.Among.{is_list_fault, twice_declared}
use Rattle.name_rules.proofs.Phase.{noted, of_phase}
use Rattle.name_rules.proofs.names.note_names.Goals as goal

pub returns : goal.returns
returns c =
    let laws = c.noting_laws.ensures in
    let d = design_of c.args.design.now in
    let start = c.args.noted.now in
    laws.alike (noted d) (is_fault_of 1 d) start c.note_uses.new.noted (λ f. sym (of_phase d f.rule f.at))
    (laws.in_turn (λ f. among twice (twice_declared d) f || is_list_fault d f) (is_use_fault d) start c.note_lists.new.noted c.note_uses.new.noted
    (laws.in_turn (among twice (twice_declared d)) (is_list_fault d) start c.note_twice.new.noted c.note_lists.new.noted c.in_ok-note_twice.ensures c.in_ok-note_lists.ensures)
    c.in_ok-note_uses.ensures)
