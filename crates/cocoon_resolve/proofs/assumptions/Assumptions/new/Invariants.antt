use Rattle.std.proofs.Common.{map}
use Rattle.cocoon_syntax.specs.TreeOf.{assume_of, design_of}
use Rattle.cocoon_resolve.specs.Kept.{HoldsTo}
use Rattle.cocoon_resolve.proofs.assumptions.Assumptions.new.Given as goal

abbrev pub invariant-loop-block : goal.invariant-loop-block
invariant-loop-block l = HoldsTo l.block-index (design_of l.design) (map assume_of l.held.items) l.counts.items
