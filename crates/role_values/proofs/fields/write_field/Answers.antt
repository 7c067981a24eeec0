use Rattle.std.proofs.Common.{rules, ◌≡◌, ◌<◌, ◌^◌, map, Some, None, true, false, sym, ap, ◌∙◌}
use Rattle.std.proofs.lemmas.Bool.{ltb-true}
use Rattle.cocoon_num.specs.Values.{fits_width}
use Rattle.cocoon_syntax.specs.TreeOf.{header_of}
use Rattle.role_values.specs.FieldPlaces.{place_of}
use Rattle.role_values.specs.Flat.{packet_of}
use Rattle.role_values.proofs.FieldPlacing.{place_declared, places, written_none, written_over, written_some}
use Rattle.role_values.proofs.FunctionSteps.{word_of}
use Rattle.role_values.proofs.fields.write_field.Goals as goal

pub returns-in_default-clause-writes : goal.returns-in_default-clause-writes
returns-in_default-clause-writes c =
    let hs = map header_of c.args.headers.now in
    let is : place_of hs c.args.header.now c.args.field.now ≡ None = search rules in
    sym (written_none hs (packet_of hs c.args.numbers.now.items) c.args.header.now c.args.field.now c.args.number is)

pub fits-requires : goal.fits-requires
fits-requires c =
    let hs = map header_of c.args.headers.now in
    place_declared hs c.args.header.now c.args.field.now c.in-Some.place (sym c.place_of.ensures ∙ c.in-Some.is) c.requires.widths

pub returns-then-not-fits-clause-writes : goal.returns-then-not-fits-clause-writes
returns-then-not-fits-clause-writes c =
    let hs = map header_of c.args.headers.now in
    let over : fits_width c.in-Some.place.width c.args.number ≡ false = search rules in
    sym (written_over hs (packet_of hs c.args.numbers.now.items) c.args.header.now c.args.field.now c.args.number c.in-Some.place (sym c.place_of.ensures ∙ c.in-Some.is) over)

pub overflow_cast-number : goal.overflow_cast-number
overflow_cast-number c =
    let hs = map header_of c.args.headers.now in
    let fits : fits_width c.in-Some.place.width c.args.number ≡ true = search rules in
    let small : c.args.number < 2 ^ 64 =
    word_of c.in-Some.place.width c.args.number (place_declared hs c.args.header.now c.args.field.now c.in-Some.place (sym c.place_of.ensures ∙ c.in-Some.is) c.requires.widths) fits in
    search rules

pub index_mut-requires : goal.index_mut-requires
index_mut-requires c =
    let hs = map header_of c.args.headers.now in
    let found : place_of hs c.args.header.now c.args.field.now ≡ Some c.in-Some.place = sym c.place_of.ensures ∙ c.in-Some.is in
    let l = (places hs c.args.numbers.now.items c.args.header.now c.args.field.now c.in-Some.place c.args.number found c.requires.fits).within in
    search rules

pub returns-clause-fits : goal.returns-clause-fits
returns-clause-fits c =
    let hs = map header_of c.args.headers.now in
    let found : place_of hs c.args.header.now c.args.field.now ≡ Some c.in-Some.place = sym c.place_of.ensures ∙ c.in-Some.is in
    let fits : fits_width c.in-Some.place.width c.args.number ≡ true = search rules in
    (places hs c.args.numbers.now.items c.args.header.now c.args.field.now c.in-Some.place c.args.number found c.requires.fits).fits (ltb-true c.args.number (2 ^ c.in-Some.place.width) fits)

pub returns-clause-writes : goal.returns-clause-writes
returns-clause-writes c =
    let hs = map header_of c.args.headers.now in
    let ns = c.args.numbers.now.items in
    let found : place_of hs c.args.header.now c.args.field.now ≡ Some c.in-Some.place = sym c.place_of.ensures ∙ c.in-Some.is in
    let fits : fits_width c.in-Some.place.width c.args.number ≡ true = search rules in
    ap Some (places hs ns c.args.header.now c.args.field.now c.in-Some.place c.args.number found c.requires.fits).sets
    ∙ sym (written_some hs (packet_of hs ns) c.args.header.now c.args.field.now c.args.number c.in-Some.place found fits)
