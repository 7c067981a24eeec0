use Rattle.std.proofs.Common.{◌≡◌, ◌||◌, ◌+◌, map, take, subst}
use Rattle.std.specs.Prelude.{flat_map}
use Rattle.cocoon_syntax.specs.TreeOf.{decl_of, refine_of}
use Rattle.cocoon_types.specs.Noting.{Notes}
use Rattle.cocoon_types.specs.Rules.{twice}
use Rattle.cocoon_types.specs.Among.{among}
use Rattle.name_rules.specs.Among.{any_at, later, switch_places, block_switches}
use Rattle.name_rules.proofs.AmongFacts.{taken-all}
use Rattle.name_rules.proofs.LaterFacts.{any-more, any-none, notes-later, notes-start}
use Rattle.name_rules.proofs.later.note_switches_of.Goals as goal

pub loop-block-init : goal.loop-block-init
loop-block-init c = record { by_now = any-none c.args.found; notes = notes-start c.args.found c.args.noted.now (c.among_laws.ensures.none twice c.args.noted.now) }

pub loop-block-preserved : goal.loop-block-preserved
loop-block-preserved c = record {
  by_now = any-more c.args.found c.loop-block.by_now c.note_switches_in-by_now.result (flat_map block_switches (map refine_of (take c.loop-block.block-index c.args.blocks.now))) (block_switches (refine_of c.block-item.result)) (flat_map block_switches (map refine_of (take (c.loop-block.block-index + 1) c.args.blocks.now))) (taken-all block_switches refine_of c.args.blocks.now c.loop-block.block-index c.block-item.result c.loop-block-test.true c.block-item.is) c.loop-block.invariant.by_now (subst (λ l. c.note_switches_in-by_now.result ≡ (c.loop-block.by_now || any_at (flat_map switch_places (map decl_of l)))) c.deref.ensures.value c.note_switches_in-by_now.ensures.by_now);
  notes = notes-later c.among_laws.ensures c.args.found c.loop-block.by_now (flat_map block_switches (map refine_of (take c.loop-block.block-index c.args.blocks.now))) (block_switches (refine_of c.block-item.result)) (flat_map block_switches (map refine_of (take (c.loop-block.block-index + 1) c.args.blocks.now))) c.args.noted.now c.loop-block.noted c.note_switches_in-by_now.new.noted (taken-all block_switches refine_of c.args.blocks.now c.loop-block.block-index c.block-item.result c.loop-block-test.true c.block-item.is) c.loop-block.invariant.by_now c.loop-block.invariant.notes (subst (λ l. Notes (among twice (later c.loop-block.by_now (flat_map switch_places (map decl_of l)))) c.loop-block.noted c.note_switches_in-by_now.new.noted) c.deref.ensures.value c.note_switches_in-by_now.ensures.notes);
}
