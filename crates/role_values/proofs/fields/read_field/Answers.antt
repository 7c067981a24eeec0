use Rattle.std.proofs.Common.{◌≡◌, ◌+◌, length, map, drop, rules, sym, ap, subst, ◌∙◌, false}
use Rattle.cocoon_num.specs.Names.{same_name}
use Rattle.cocoon_num.specs.PacketForms.{FieldsFit}
use Rattle.cocoon_resolve.specs.Readers.{all_widths}
use Rattle.cocoon_syntax.specs.TreeOf.{header_of, param_of}
use Rattle.cocoon_types.specs.Design as design
use Rattle.cocoon_types.specs.Design.{widths_of}
use Rattle.std.proofs.lemmas.List.{length-map}
use Rattle.role_values.specs.DeclaredWidths.{AllDeclared}
use Rattle.role_values.specs.Flat.{packet_of}
use Rattle.role_values.proofs.FieldSteps.{header_declared, header_fits, header_past}
use Rattle.role_values.proofs.fields.read_field.Goals as goal

pub split_at-requires : goal.split_at-requires
split_at-requires c =
    let x = c.declared-item.result in
    let count : c.len.result ≡ length x.fields.items = search rules in
    let many : c.len.result ≡ length (header_of x).fields = count ∙ sym (length-map x.fields.items param_of) in
    (header_fits header_of c.args.headers.now c.loop-declared.declared-index x c.len.result c.loop-declared.rest.now c.loop-declared-test.true c.declared-item.is many c.loop-declared.invariant.fits).0

pub read_in-requires-clause-widths : goal.read_in-requires-clause-widths
read_in-requires-clause-widths c =
    let x = c.declared-item.result in
    subst (λ ps. AllDeclared (widths_of (map param_of ps))) (sym c.deref.ensures.value)
    (header_declared header_of c.args.headers.now c.loop-declared.declared-index x c.loop-declared-test.true c.declared-item.is c.loop-declared.invariant.widths).0

pub read_in-requires-clause-fits : goal.read_in-requires-clause-fits
read_in-requires-clause-fits c =
    let x = c.declared-item.result in
    let count : c.len.result ≡ length x.fields.items = search rules in
    let many : c.len.result ≡ length (header_of x).fields = count ∙ sym (length-map x.fields.items param_of) in
    subst (λ ps. FieldsFit (widths_of (map param_of ps)) c.split_at.result.0.now) (sym c.deref.ensures.value)
    (subst (λ ns. FieldsFit (widths_of (header_of x).fields) ns) (sym c.split_at.ensures.front)
    (header_fits header_of c.args.headers.now c.loop-declared.declared-index x c.len.result c.loop-declared.rest.now c.loop-declared-test.true c.declared-item.is many c.loop-declared.invariant.fits).1)

pub loop-declared-preserved : goal.loop-declared-preserved
loop-declared-preserved c =
    let x = c.declared-item.result in
    let i = c.loop-declared.declared-index in
    let hs = map header_of (drop (i + 1) c.args.headers.now) in
    let count : c.len.result ≡ length x.fields.items = search rules in
    let many : c.len.result ≡ length (header_of x).fields = count ∙ sym (length-map x.fields.items param_of) in
    let other : same_name c.args.header.now x.name.text ≡ false = search rules in
    let back : drop (length (header_of x).fields) c.loop-declared.rest.now ≡ c.split_at.result.1.now = ap (λ n. drop n c.loop-declared.rest.now) (sym many) ∙ sym c.split_at.ensures.back in
    record {
      same = c.loop-declared.invariant.same
          ∙ header_past header_of c.args.headers.now i x c.loop-declared.rest.now c.args.header.now c.args.field.now c.loop-declared-test.true c.declared-item.is other
          ∙ ap (λ ns. design.read_field hs (packet_of hs ns) c.args.header.now c.args.field.now) back;
      fits = subst (λ ns. FieldsFit (all_widths hs) ns) (sym c.split_at.ensures.back)
          (header_fits header_of c.args.headers.now i x c.len.result c.loop-declared.rest.now c.loop-declared-test.true c.declared-item.is many c.loop-declared.invariant.fits).2;
      widths = (header_declared header_of c.args.headers.now i x c.loop-declared-test.true c.declared-item.is c.loop-declared.invariant.widths).1;
    }
