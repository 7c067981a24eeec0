use Rattle.std.proofs.Common.{subst, ◌∙◌, sym, ap, map}
use Rattle.std.specs.Prelude.{option_map, flat_map}
use Rattle.cocoon_syntax.specs.TreeOf.{design_of, host_of, name_of, refine_of}
use Rattle.cocoon_types.specs.Noting.{Notes}
use Rattle.cocoon_types.specs.Rules.{sink_refined}
use Rattle.cocoon_types.specs.Among.{among}
use Rattle.name_rules.specs.Among.{sink_in}
use Rattle.name_rules.proofs.AgainFacts.{sink-all, sink-none}
use Rattle.name_rules.proofs.refined.note_sink_refined.Goals as goal

pub returns-in-Some : goal.returns-in-Some
returns-in-Some c =
    let found = sym c.host.ensures ∙ ap (option_map (λ h. host_of h.now)) c.in-Some.is in
    subst (λ l. Notes (among sink_refined l) c.args.noted.now c.note_sink.new.noted) (sink-all (design_of c.args.design.now) (host_of c.in-Some.host.now) found)
    (subst (λ l. Notes (among sink_refined (flat_map (sink_in (name_of c.in-Some.host.now.sink)) (map refine_of l))) c.args.noted.now c.note_sink.new.noted) c.deref.ensures.value c.note_sink.ensures)

pub returns-in-None : goal.returns-in-None
returns-in-None c =
    let found = sym c.host.ensures ∙ ap (option_map (λ h. host_of h.now)) c.in-None.is in
    subst (λ l. Notes (among sink_refined l) c.args.noted.now c.args.noted.now) (sink-none (design_of c.args.design.now) found) (c.among_laws.ensures.none sink_refined c.args.noted.now)
