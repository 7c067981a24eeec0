use Rattle.std.proofs.Common.{◌||◌, ◌+◌, map, take, subst, ap, ◌∙◌}
use Rattle.std.specs.Prelude.{flat_map, option_to_list}
use Rattle.cocoon_syntax.specs.TreeOf.{decl_of}
use Rattle.cocoon_types.specs.Noting.{Notes}
use Rattle.cocoon_types.specs.Rules.{twice}
use Rattle.cocoon_types.specs.Among.{among}
use Rattle.name_rules.specs.Among.{any_at, later, switch_places}
use Rattle.name_rules.proofs.AmongFacts.{taken-all}
use Rattle.name_rules.proofs.LaterFacts.{any-more, any-none, any-option, notes-later, notes-start}
use Rattle.name_rules.proofs.later.note_switches_in.Goals as goal

pub loop-decl-init : goal.loop-decl-init
loop-decl-init c = record { by_now = any-none c.args.found; notes = notes-start c.args.found c.args.noted.now (c.among_laws.ensures.none twice c.args.noted.now) }

pub loop-decl-preserved : goal.loop-decl-preserved
loop-decl-preserved c = record {
  by_now = any-more c.args.found c.loop-decl.by_now c.note_later-by_now.result (flat_map switch_places (map decl_of (take c.loop-decl.decl-index c.args.decls.now))) (switch_places (decl_of c.decl-item.result)) (flat_map switch_places (map decl_of (take (c.loop-decl.decl-index + 1) c.args.decls.now))) (taken-all switch_places decl_of c.args.decls.now c.loop-decl.decl-index c.decl-item.result c.loop-decl-test.true c.decl-item.is) c.loop-decl.invariant.by_now (c.note_later-by_now.ensures.by_now ∙ ap (λ b. c.loop-decl.by_now || b) (any-option c.switch_in.result ∙ ap (λ o. any_at (option_to_list o)) c.switch_in.ensures));
  notes = notes-later c.among_laws.ensures c.args.found c.loop-decl.by_now (flat_map switch_places (map decl_of (take c.loop-decl.decl-index c.args.decls.now))) (switch_places (decl_of c.decl-item.result)) (flat_map switch_places (map decl_of (take (c.loop-decl.decl-index + 1) c.args.decls.now))) c.args.noted.now c.loop-decl.noted c.note_later-by_now.new.noted (taken-all switch_places decl_of c.args.decls.now c.loop-decl.decl-index c.decl-item.result c.loop-decl-test.true c.decl-item.is) c.loop-decl.invariant.by_now c.loop-decl.invariant.notes (subst (λ o. Notes (among twice (later c.loop-decl.by_now (option_to_list o))) c.loop-decl.noted c.note_later-by_now.new.noted) c.switch_in.ensures c.note_later-by_now.ensures.notes);
}
