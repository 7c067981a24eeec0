use Rattle.std.proofs.Common.{map, sym, ap}
use Rattle.std.specs.Prelude.{option_map}
use Rattle.std.proofs.lemmas.Option.{get_or_from_slice_get, slice_get_within}
use Rattle.cocoon_syntax.specs.TreeOf.{design_of, entry_of, expr_of, function_of}
use Rattle.cocoon_types.specs.Design.{functions}
use Rattle.runtime_defs.specs.Bound.{IsPlace}
use Rattle.runtime_defs.proofs.Defined.{defined}
use Rattle.runtime_defs.proofs.Zips.{zip-pushed}
use Rattle.runtime_defs.proofs.tables.tables_of.Goals as goal

pub loop-number-preserved : goal.loop-number-preserved
loop-number-preserved c =
    let fs = functions (design_of c.args.checked.now) in
    let f = function_of c.function.result.now in
    zip-pushed (IsPlace (map entry_of c.args.entries.now)) fs c.loop-number.tables.items c.push.new.self.items c.loop-number.number f c.in_ok-place_of.field-0
    (slice_get_within fs c.loop-number.number f c.function.ensures) (sym (get_or_from_slice_get fs c.loop-number.number f f c.function.ensures))
    c.loop-number.invariant c.in_ok-place_of.ensures c.in_ok-push.ensures.items

pub place_of-requires : goal.place_of-requires
place_of-requires c = λ b.
    defined (design_of c.args.checked.now) (map entry_of c.args.entries.now) c.requires.rules c.requires.fit c.loop-number.number (function_of c.function.result.now) c.function.ensures (ap (option_map expr_of) b)
