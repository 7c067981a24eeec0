use Rattle.std.proofs.Common.{true, subst, map}
use Rattle.std.specs.Prelude.{flat_map}
use Rattle.cocoon_types.specs.Noting.{Notes}
use Rattle.cocoon_syntax.specs.TreeOf.{decl_of, refine_of}
use Rattle.cocoon_types.specs.Rules.{twice}
use Rattle.cocoon_types.specs.Among.{among}
use Rattle.name_rules.specs.Among.{later, host_places, block_hosts}
use Rattle.name_rules.proofs.AmongFacts.{notes-more}
use Rattle.name_rules.proofs.later.note_hosts_of.Goals as goal

pub loop-block-init : goal.loop-block-init
loop-block-init c = c.among_laws.ensures.none twice c.args.noted.now

pub loop-block-preserved : goal.loop-block-preserved
loop-block-preserved c = notes-more c.among_laws.ensures twice block_hosts refine_of c.args.blocks.now c.loop-block.block-index c.block-item.result c.args.noted.now c.loop-block.noted c.note_hosts_in.new.noted c.loop-block-test.true c.block-item.is c.loop-block.invariant (subst (λ l. Notes (among twice (later true (flat_map host_places (map decl_of l)))) c.loop-block.noted c.note_hosts_in.new.noted) c.deref.ensures.value c.note_hosts_in.ensures)
