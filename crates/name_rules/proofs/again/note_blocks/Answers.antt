use Rattle.std.proofs.Common.{◌++◌, ◌+◌, map, take, subst, sym, append-nil}
use Rattle.std.specs.Prelude.{flat_map}
use Rattle.cocoon_syntax.specs.TreeOf.{decl_of, refine_of}
use Rattle.cocoon_types.specs.Noting.{Notes}
use Rattle.cocoon_types.specs.Rules.{twice}
use Rattle.cocoon_types.specs.RuleParts.{repeated}
use Rattle.cocoon_types.specs.Among.{among}
use Rattle.name_rules.specs.Among.{Seen, function_names}
use Rattle.name_rules.proofs.AgainFacts.{block_decls, notes-level, seen-level, taken-decls}
use Rattle.name_rules.proofs.again.note_blocks.Goals as goal

pub loop-block-init : goal.loop-block-init
loop-block-init c = record {
  kept = λ names h. subst (Seen c.args.table.now) (sym (append-nil names)) h;
  notes = λ names h. c.among_laws.ensures.none twice c.args.noted.now;
}

pub loop-block-preserved : goal.loop-block-preserved
loop-block-preserved c = record {
  kept = λ names h. seen-level c.note_level.new.table names (flat_map block_decls (map refine_of (take c.loop-block.block-index c.args.blocks.now))) (map decl_of c.block-item.result.decls.items) (flat_map block_decls (map refine_of (take (c.loop-block.block-index + 1) c.args.blocks.now))) (taken-decls refine_of c.args.blocks.now c.loop-block.block-index c.block-item.result c.loop-block-test.true c.block-item.is)
      (subst (λ l. Seen c.note_level.new.table ((names ++ function_names (flat_map block_decls (map refine_of (take c.loop-block.block-index c.args.blocks.now)))) ++ function_names (map decl_of l))) c.deref.ensures.value (c.in_ok-note_level.ensures.kept (names ++ function_names (flat_map block_decls (map refine_of (take c.loop-block.block-index c.args.blocks.now)))) (c.loop-block.invariant.kept names h)));
  notes = λ names h. notes-level c.among_laws.ensures names (flat_map block_decls (map refine_of (take c.loop-block.block-index c.args.blocks.now))) (map decl_of c.block-item.result.decls.items) (flat_map block_decls (map refine_of (take (c.loop-block.block-index + 1) c.args.blocks.now))) c.args.noted.now c.loop-block.noted c.note_level.new.noted (taken-decls refine_of c.args.blocks.now c.loop-block.block-index c.block-item.result c.loop-block-test.true c.block-item.is) (c.loop-block.invariant.notes names h)
      (subst (λ l. Notes (among twice (repeated (names ++ function_names (flat_map block_decls (map refine_of (take c.loop-block.block-index c.args.blocks.now)))) (function_names (map decl_of l)))) c.loop-block.noted c.note_level.new.noted) c.deref.ensures.value (c.in_ok-note_level.ensures.notes (names ++ function_names (flat_map block_decls (map refine_of (take c.loop-block.block-index c.args.blocks.now)))) (c.loop-block.invariant.kept names h)));
}
