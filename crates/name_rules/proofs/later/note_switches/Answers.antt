use Rattle.std.proofs.Common.{◌≡◌, map, subst, false, refl}
use Rattle.std.specs.Prelude.{flat_map}
use Rattle.cocoon_syntax.specs.TreeOf.{decl_of, design_of, refine_of}
use Rattle.cocoon_types.specs.Noting.{Notes}
use Rattle.cocoon_types.specs.Rules.{twice}
use Rattle.cocoon_types.specs.Among.{among}
use Rattle.name_rules.specs.Among.{any_at, later, switch_places, block_switches}
use Rattle.name_rules.proofs.LaterFacts.{notes-later, switches-twice}
use Rattle.name_rules.proofs.later.note_switches.Goals as goal

pub returns : goal.returns
returns c =
    let by_now = subst (λ l. c.note_switches_in-found.result ≡ any_at (flat_map switch_places (map decl_of l))) c.deref.ensures.value c.note_switches_in-found.ensures.by_now in
    subst (λ l. Notes (among twice l) c.args.noted.now c.note_switches_of.new.noted) (switches-twice (design_of c.args.design.now))
    (notes-later c.among_laws.ensures false c.note_switches_in-found.result (flat_map switch_places (design_of c.args.design.now).decls) (flat_map block_switches (design_of c.args.design.now).refines) _ c.args.noted.now c.note_switches_in-found.new.noted c.note_switches_of.new.noted refl by_now
    (subst (λ l. Notes (among twice (later false (flat_map switch_places (map decl_of l)))) c.args.noted.now c.note_switches_in-found.new.noted) c.deref.ensures.value c.note_switches_in-found.ensures.notes)
    (subst (λ l. Notes (among twice (later c.note_switches_in-found.result (flat_map block_switches (map refine_of l)))) c.note_switches_in-found.new.noted c.note_switches_of.new.noted) c.deref-2.ensures.value c.note_switches_of.ensures))
