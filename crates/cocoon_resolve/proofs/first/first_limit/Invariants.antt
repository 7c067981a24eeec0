use Rattle.std.proofs.Common.{take}
use Rattle.cocoon_syntax.specs.TreeOf.{design_of}
use Rattle.cocoon_types.specs.Limits.{AreWithin, limits}
use Rattle.cocoon_resolve.proofs.first.first_limit.Given as goal

abbrev pub invariant-loop-name : goal.invariant-loop-name
invariant-loop-name l = AreWithin (design_of l.design) (take l.name-index limits)
