use Rattle.std.proofs.Common.{rules}
use Rattle.cocoon_syntax.specs.TreeOf.{design_of, function_of}
use Rattle.cocoon_types.specs.Design.{functions}
use Rattle.runtime_defs.proofs.Printing.{entries_step}
use Rattle.runtime_defs.proofs.print.push_places.Goals as goal

pub loop-number-preserved : goal.loop-number-preserved
loop-number-preserved c =
    entries_step (functions (design_of c.args.checked.now)) c.args.places.now c.loop-number.number (function_of c.function.result.now) c.index-places-number.result c.index-places-number.result
    c.function.ensures (search rules) (search rules) c.loop-number.invariant c.push_place.ensures
