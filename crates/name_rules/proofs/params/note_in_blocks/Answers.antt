use Rattle.std.proofs.Common.{subst, map}
use Rattle.std.specs.Prelude.{flat_map}
use Rattle.cocoon_types.specs.Noting.{Notes}
use Rattle.cocoon_syntax.specs.TreeOf.{decl_of, refine_of}
use Rattle.cocoon_types.specs.Rules.{twice}
use Rattle.cocoon_types.specs.Among.{among}
use Rattle.name_rules.specs.Among.{repeated_params, repeated_in_block}
use Rattle.name_rules.proofs.AmongFacts.{notes-more}
use Rattle.name_rules.proofs.params.note_in_blocks.Goals as goal

pub loop-block-init : goal.loop-block-init
loop-block-init c = c.among_laws.ensures.none twice c.args.noted.now

pub loop-block-preserved : goal.loop-block-preserved
loop-block-preserved c = notes-more c.among_laws.ensures twice repeated_in_block refine_of c.args.blocks.now c.loop-block.block-index c.block-item.result c.args.noted.now c.loop-block.noted c.note_in_level.new.noted c.loop-block-test.true c.block-item.is c.loop-block.invariant (subst (λ l. Notes (among twice (flat_map repeated_params (map decl_of l))) c.loop-block.noted c.note_in_level.new.noted) c.deref.ensures.value c.in_ok-note_in_level.ensures)
