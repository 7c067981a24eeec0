use Rattle.std.proofs.Common.{◌≡◌, true, rules}
use Rattle.cocoon_syntax.specs.TreeOf.{design_of, entry_of, function_of, name_of}
use Rattle.cocoon_types.specs.DefsRules.{entry_fits}
use Rattle.runtime_defs.proofs.Reading.{Found, fits-known, right-entry, second-entry}
use Rattle.runtime_defs.proofs.entries.entry_fault.Goals as goal

pub returns-then-is_second : goal.returns-then-is_second
returns-then-is_second c = λ fs h.
    let d = design_of c.args.checked.now in
    let e = entry_of c.args.entry.now in
    let f = function_of c.in-Some.function.now in
    let n = name_of c.entry_function-name.result.now in
    let fits : entry_fits f e ≡ true = search rules in
    let found : Found d e f n c.bytes.result.now = record { name = c.entry_function-name.ensures; text = c.bytes.ensures; function = c.in-Some.ensures; fits = fits } in
    second-entry d fs e f n c.bytes.result.now found (c.if-is_second.ensures fs h (fits-known d e f n c.bytes.result.now found))

pub returns-else-is_second : goal.returns-else-is_second
returns-else-is_second c = λ fs h.
    let d = design_of c.args.checked.now in
    let e = entry_of c.args.entry.now in
    let f = function_of c.in-Some.function.now in
    let n = name_of c.entry_function-name.result.now in
    let fits : entry_fits f e ≡ true = search rules in
    let found : Found d e f n c.bytes.result.now = record { name = c.entry_function-name.ensures; text = c.bytes.ensures; function = c.in-Some.ensures; fits = fits } in
    right-entry d fs e f n c.bytes.result.now found (c.if-is_second.ensures fs h (fits-known d e f n c.bytes.result.now found))
