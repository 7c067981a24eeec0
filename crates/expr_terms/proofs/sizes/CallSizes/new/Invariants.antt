use Rattle.std.proofs.Common.{◌-◌, length}
use Rattle.cocoon_syntax.specs.TreeOf.{design_of}
use Rattle.cocoon_types.specs.Design.{functions}
use Rattle.expr_terms.specs.Knowing.{KnowsFirst}
use Rattle.expr_terms.proofs.sizes.CallSizes.new.Given as goal

abbrev pub invariant-functions : goal.invariant-functions
invariant-functions l = KnowsFirst (design_of l.checked) l.sizes.items

abbrev pub decreases-functions : goal.decreases-functions
decreases-functions l = length (functions (design_of l.checked)) - length l.sizes.items
