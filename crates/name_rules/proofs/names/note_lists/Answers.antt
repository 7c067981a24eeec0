use Rattle.std.proofs.Common.{◌||◌}
use Rattle.std.specs.Prelude.{flat_map}
use Rattle.cocoon_syntax.specs.TreeOf.{design_of}
use Rattle.cocoon_types.specs.NameRules.{unknown_role_in_decl}
use Rattle.cocoon_types.specs.Rules.{fails_at, unknown_role, not_refinable, sink_refined, no_host, no_switch}
use Rattle.cocoon_types.specs.Sites.{decl_sites}
use Rattle.cocoon_types.specs.Among.{among}
use Rattle.name_rules.proofs.names.note_lists.Goals as goal

pub returns : goal.returns
returns c =
    let laws = c.noting_laws.ensures in
    let d = design_of c.args.design.now in
    let start = c.args.noted.now in
    let unknown = among unknown_role (flat_map unknown_role_in_decl (decl_sites d)) in
    let refinable = among not_refinable (fails_at not_refinable d) in
    let sink = among sink_refined (fails_at sink_refined d) in
    let host = among no_host (fails_at no_host d) in
    laws.in_turn (λ f. ((unknown f || refinable f) || sink f) || host f) (among no_switch (fails_at no_switch d)) start c.note_no_host.new.noted c.note_no_switch.new.noted
    (laws.in_turn (λ f. (unknown f || refinable f) || sink f) host start c.note_sink_refined.new.noted c.note_no_host.new.noted
    (laws.in_turn (λ f. unknown f || refinable f) sink start c.note_not_refinable.new.noted c.note_sink_refined.new.noted
    (laws.in_turn unknown refinable start c.note_unknown_roles.new.noted c.note_not_refinable.new.noted c.in_ok-note_unknown_roles.ensures c.in_ok-note_not_refinable.ensures)
    c.note_sink_refined.ensures) c.note_no_host.ensures) c.note_no_switch.ensures
