use Rattle.std.proofs.Common.{subst, map}
use Rattle.std.specs.Prelude.{flat_map}
use Rattle.cocoon_types.specs.Noting.{Notes}
use Rattle.cocoon_syntax.specs.TreeOf.{name_of, refine_of}
use Rattle.cocoon_types.specs.Rules.{sink_refined}
use Rattle.cocoon_types.specs.Among.{among}
use Rattle.name_rules.specs.Among.{unless_other, sink_in}
use Rattle.name_rules.proofs.AmongFacts.{notes-more}
use Rattle.name_rules.proofs.refined.note_sink.Goals as goal

pub loop-block-init : goal.loop-block-init
loop-block-init c = c.among_laws.ensures.none sink_refined c.args.noted.now

pub loop-block-preserved : goal.loop-block-preserved
loop-block-preserved c = notes-more c.among_laws.ensures sink_refined (sink_in (name_of c.args.sink.now)) refine_of c.args.blocks.now c.loop-block.block-index c.block-item.result c.args.noted.now c.loop-block.noted c.note_sink_in.new.noted c.loop-block-test.true c.block-item.is c.loop-block.invariant (subst (λ l. Notes (among sink_refined (flat_map (unless_other (name_of c.args.sink.now)) (map name_of l))) c.loop-block.noted c.note_sink_in.new.noted) c.deref.ensures.value c.note_sink_in.ensures)
