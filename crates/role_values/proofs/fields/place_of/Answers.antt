use Rattle.std.proofs.Common.{rules, ◌≡◌, ◌<◌, length, map, drop, option_map, Some, ◌+◌, ◌-◌, ◌≤◌, ◌^◌, false, w64, Fits, sym, ap, subst, ◌∙◌, arith}
use Rattle.std.proofs.lemmas.List.{drop-drop, length-drop, length-map}
use Rattle.cocoon_num.specs.Names.{same_name}
use Rattle.cocoon_num.specs.PacketForms.{FieldsFit}
use Rattle.cocoon_resolve.specs.Readers.{all_widths}
use Rattle.cocoon_syntax.specs.TreeOf.{header_of, param_of}
use Rattle.role_values.specs.FieldPlaces as places
use Rattle.role_values.proofs.FieldPlacing.{place_within, places_past}
use Rattle.role_values.proofs.FieldSteps.{header_fits}
use Rattle.role_values.proofs.fields.place_of.Goals as goal

pub overflow_add-result : goal.overflow_add-result
overflow_add-result c =
    let x = c.declared-item.result in
    let before = c.loop-declared.before in
    let numbers = c.args.numbers.now in
    let many : length x.fields.items ≡ length (header_of x).fields = sym (length-map x.fields.items param_of) in
    let room : length x.fields.items ≤ length (drop before numbers) =
    (header_fits header_of c.args.headers.now c.loop-declared.declared-index x (length x.fields.items) (drop before numbers) c.loop-declared-test.true c.declared-item.is many c.loop-declared.invariant.fits).0 in
    let found : places.place_in (map param_of c.deref.result.now) c.args.field.now ≡ Some c.in_ok-place.place = sym c.place_in.ensures ∙ c.in_ok-place.was in
    let in_header : c.in_ok-place.place.index < length (map param_of c.deref.result.now) = place_within (map param_of c.deref.result.now) c.args.field.now c.in_ok-place.place found in
    let same : length (map param_of c.deref.result.now) ≡ length x.fields.items = length-map c.deref.result.now param_of ∙ ap length c.deref.ensures.value in
    let left : length (drop before numbers) ≡ length numbers - before = length-drop before numbers in
    let w : before ≤ length numbers = c.loop-declared.invariant.within in
    let short : Fits w64 (length numbers) = search rules in
    let sum : before + c.in_ok-place.place.index < 2 ^ 64 = omega (arith, short) in
    search rules

pub overflow_add-before : goal.overflow_add-before
overflow_add-before c =
    let x = c.declared-item.result in
    let before = c.loop-declared.before in
    let k = c.len-before.result in
    let numbers = c.args.numbers.now in
    let count : k ≡ length x.fields.items = search rules in
    let many : k ≡ length (header_of x).fields = count ∙ sym (length-map x.fields.items param_of) in
    let room : k ≤ length (drop before numbers) =
    (header_fits header_of c.args.headers.now c.loop-declared.declared-index x k (drop before numbers) c.loop-declared-test.true c.declared-item.is many c.loop-declared.invariant.fits).0 in
    let left : length (drop before numbers) ≡ length numbers - before = length-drop before numbers in
    let w : before ≤ length numbers = c.loop-declared.invariant.within in
    let short : Fits w64 (length numbers) = search rules in
    let sum : before + k < 2 ^ 64 = omega (arith, short) in
    search rules

pub loop-declared-preserved : goal.loop-declared-preserved
loop-declared-preserved c =
    let x = c.declared-item.result in
    let before = c.loop-declared.before in
    let k = c.len-before.result in
    let i = c.loop-declared.declared-index in
    let numbers = c.args.numbers.now in
    let count : k ≡ length x.fields.items = search rules in
    let many : k ≡ length (header_of x).fields = count ∙ sym (length-map x.fields.items param_of) in
    let other : same_name c.args.header.now x.name.text ≡ false = search rules in
    let fit = header_fits header_of c.args.headers.now i x k (drop before numbers) c.loop-declared-test.true c.declared-item.is many c.loop-declared.invariant.fits in
    let left : length (drop before numbers) ≡ length numbers - before = length-drop before numbers in
    let w : before ≤ length numbers = c.loop-declared.invariant.within in
    let room : k ≤ length (drop before numbers) = fit.0 in
    record {
      within = omega arith;
      same = c.loop-declared.invariant.same
          ∙ places_past header_of c.args.headers.now i before x c.args.header.now c.args.field.now c.loop-declared-test.true c.declared-item.is other
          ∙ ap (λ n. option_map (places.later (before + n)) (places.place_of (map header_of (drop (i + 1) c.args.headers.now)) c.args.header.now c.args.field.now)) (sym many);
      fits = subst (FieldsFit (all_widths (map header_of (drop (i + 1) c.args.headers.now)))) (drop-drop k before numbers) fit.2;
    }
