use Rattle.cocoon_syntax.specs.TreeOf.{design_of, function_of}
use Rattle.cocoon_types.specs.Design.{functions}
use Rattle.runtime_defs.proofs.Places.{function-widths, places-pushed}
use Rattle.runtime_defs.proofs.lookup_tables.places_of.Goals as goal

pub place_of-requires : goal.place_of-requires
place_of-requires c =
    function-widths (design_of c.args.checked.now) c.keeps_rules.ensures.named c.keeps_rules.ensures.resolves c.loop-number.number (function_of c.function-function.result.now) c.function-function.ensures

pub loop-number-preserved : goal.loop-number-preserved
loop-number-preserved c =
    let fs = functions (design_of c.args.checked.now) in
    let f = function_of c.function-function.result.now in
    places-pushed (design_of c.args.checked.now) c.args.lookups.now fs c.loop-number.tables.items c.push.new.self.items c.loop-number.number f c.in_ok-place_of.field-0
    c.function-function.ensures c.loop-number.invariant c.in_ok-place_of.ensures c.in_ok-push.ensures.items
