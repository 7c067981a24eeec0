use Rattle.std.proofs.Common.{map, take}
use Rattle.std.specs.Prelude.{flat_map}
use Rattle.cocoon_types.specs.Noting.{Notes}
use Rattle.cocoon_syntax.specs.TreeOf.{name_of, refine_of}
use Rattle.cocoon_types.specs.Rules.{sink_refined}
use Rattle.cocoon_types.specs.Among.{among}
use Rattle.name_rules.specs.Among.{sink_in}
use Rattle.name_rules.proofs.refined.note_sink.Given as goal

abbrev pub invariant-loop-block : goal.invariant-loop-block
invariant-loop-block l = Notes (among sink_refined (flat_map (sink_in (name_of l.sink)) (map refine_of (take l.block-index l.blocks)))) l.fn.noted l.noted
