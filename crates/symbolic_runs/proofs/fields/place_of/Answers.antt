use Rattle.std.proofs.Common.{rules, ◌≡◌, ◌+◌, ◌<◌, ◌≤◌, ◌^◌, length, map, drop, Some, Fits, w64, sym, ap, ◌∙◌, arith}
use Rattle.cocoon_resolve.specs.Readers.{all_widths}
use Rattle.cocoon_syntax.specs.TreeOf.{header_of, param_of}
use Rattle.symbolic_runs.specs.Places.{place_in}
use Rattle.symbolic_runs.proofs.Places.{header_room, within_in}
use Rattle.symbolic_runs.proofs.fields.place_of.Goals as goal

pub overflow_add-result : goal.overflow_add-result
overflow_add-result c =
    let x = c.declared-item.result in
    let hs = c.args.headers.now in
    let i = c.loop-declared.declared-index in
    let before = c.loop-declared.before in
    let place = c.in_ok-place_in.field-0 in
    let found : place_in (map param_of x.fields.items) c.args.field.now ≡ Some place =
    ap (λ ps. place_in (map param_of ps) c.args.field.now) (sym c.deref.ensures.value) ∙ sym c.place_in.ensures ∙ c.in_ok-place_in.was in
    let low : place < length (map param_of x.fields.items) = within_in (map param_of x.fields.items) c.args.field.now place found in
    let room : length (all_widths (map header_of (drop i hs))) ≡ length (map param_of x.fields.items) + length (all_widths (map header_of (drop (i + 1) hs))) =
    header_room header_of hs i x c.loop-declared-test.true c.declared-item.is in
    let within : before + length (all_widths (map header_of (drop i hs))) ≤ length c.args.fields.now = c.loop-declared.invariant.within in
    let short : Fits w64 (length c.args.fields.now) = search rules in
    let sum : before + place < 2 ^ 64 = omega (arith, short, low, room, within) in
    search rules
