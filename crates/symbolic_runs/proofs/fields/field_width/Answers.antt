use Rattle.std.proofs.Common.{◌≡◌, ℕ, ◌<◌, ◌≤◌, length, map, Some, None, slice_index_or, rules, sym, subst, ◌∙◌, arith}
use Rattle.cocoon_resolve.specs.Readers.{all_widths}
use Rattle.cocoon_syntax.specs.TreeOf.{header_of}
use Rattle.bv_terms.specs.Arenas.{term_at}
use Rattle.bv_terms.specs.TermTrees.{IsWidth}
use Rattle.symbolic_runs.specs.Places.{place_of}
use Rattle.symbolic_runs.proofs.Places.{declared_place, fields_long, is_width, place_low, width_is, width_of}
use Rattle.symbolic_runs.proofs.fields.field_width.Goals as goal

pub place_of-requires : goal.place_of-requires
place_of-requires c = fields_long (term_at c.args.terms.now) (all_widths (map header_of c.args.headers.now)) c.args.fields.now c.requires.widths

pub offset_bounds-fields-place : goal.offset_bounds-fields-place
offset_bounds-fields-place c =
    let hs = map header_of c.args.headers.now in
    let low : c.in-Some.place < length (all_widths hs) = place_low hs c.args.header.now c.args.field.now c.in-Some.place (sym c.place_of.ensures ∙ c.in-Some.is) in
    let many : length (all_widths hs) ≤ length c.args.fields.now = fields_long (term_at c.args.terms.now) (all_widths hs) c.args.fields.now c.requires.widths in
    let l : c.in-Some.place < length c.args.fields.now = omega (arith, low, many) in
    search rules

pub bounds-fields-place : goal.bounds-fields-place
bounds-fields-place c =
    let hs = map header_of c.args.headers.now in
    let low : c.in-Some.place < length (all_widths hs) = place_low hs c.args.header.now c.args.field.now c.in-Some.place (sym c.place_of.ensures ∙ c.in-Some.is) in
    let many : length (all_widths hs) ≤ length c.args.fields.now = fields_long (term_at c.args.terms.now) (all_widths hs) c.args.fields.now c.requires.widths in
    omega (arith, low, many)

pub width-requires : goal.width-requires
width-requires c =
    let hs = map header_of c.args.headers.now in
    let low : c.in-Some.place < length (all_widths hs) = place_low hs c.args.header.now c.args.field.now c.in-Some.place (sym c.place_of.ensures ∙ c.in-Some.is) in
    let many : length (all_widths hs) ≤ length c.args.fields.now = fields_long (term_at c.args.terms.now) (all_widths hs) c.args.fields.now c.requires.widths in
    c.requires.there c.in-Some.place 0 (omega (arith, low, many))

pub unreachable-requires : goal.unreachable-requires
unreachable-requires c =
    declared_place (map header_of c.args.headers.now) c.args.header.now c.args.field.now c.requires.declared.0 c.requires.declared.1 (sym c.place_of.ensures ∙ c.in-None.is)

pub returns-clause-width : goal.returns-clause-width
returns-clause-width c =
    let hs = map header_of c.args.headers.now in
    let h = c.args.header.now in
    let f = c.args.field.now in
    let w = c.requires.declared.0 in
    c.width.ensures ∙ width_of (term_at c.args.terms.now) hs c.args.fields.now h f c.in-Some.place w 0 (sym c.place_of.ensures ∙ c.in-Some.is) c.requires.declared.1 c.requires.widths
    ∙ width_is hs h f w c.requires.declared.1

pub returns-clause-is_width : goal.returns-clause-is_width
returns-clause-is_width c =
    let hs = map header_of c.args.headers.now in
    let low : c.in-Some.place < length (all_widths hs) = place_low hs c.args.header.now c.args.field.now c.in-Some.place (sym c.place_of.ensures ∙ c.in-Some.is) in
    let many : length (all_widths hs) ≤ length c.args.fields.now = fields_long (term_at c.args.terms.now) (all_widths hs) c.args.fields.now c.requires.widths in
    let k = slice_index_or c.args.fields.now c.in-Some.place 0 in
    subst IsWidth (sym c.width.ensures) (is_width (term_at c.args.terms.now k) (c.count-count.ensures.arena.terms k (c.requires.there c.in-Some.place 0 (omega (arith, low, many)))))
