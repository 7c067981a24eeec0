use Rattle.std.proofs.Common.{◌≡◌, ◌<◌, ◌≤◌, length, map, Some, None, rules, sym, ◌∙◌, arith}
use Rattle.cocoon_resolve.specs.Readers.{all_widths}
use Rattle.cocoon_syntax.specs.TreeOf.{header_of}
use Rattle.symbolic_runs.specs.Places.{place_of}
use Rattle.symbolic_runs.proofs.Changes.{field_reads, no_field_reads}
use Rattle.symbolic_runs.proofs.Places.{place_low}
use Rattle.symbolic_runs.proofs.states.State.set_field.Goals as goal

pub returns-in_default : goal.returns-in_default
returns-in_default c = λ a t u r m.
    let hs = map header_of c.args.headers.now in
    let none : place_of hs c.args.header.now c.args.field.now ≡ None = search rules in
    no_field_reads a c.args.self.now hs c.args.header.now c.args.field.now t u none r

pub index_mut-requires : goal.index_mut-requires
index_mut-requires c =
    let hs = map header_of c.args.headers.now in
    let found : place_of hs c.args.header.now c.args.field.now ≡ Some c.in-Some.place = sym c.place_of.ensures ∙ c.in-Some.is in
    let low : c.in-Some.place < length (all_widths hs) = place_low hs c.args.header.now c.args.field.now c.in-Some.place found in
    let many : length (all_widths hs) ≤ length c.args.self.now.fields.items = c.requires in
    let l : c.in-Some.place < length c.args.self.now.fields.items = omega (arith, low, many) in
    search rules

pub returns : goal.returns
returns c = λ a t u r m.
    let hs = map header_of c.args.headers.now in
    let found : place_of hs c.args.header.now c.args.field.now ≡ Some c.in-Some.place = sym c.place_of.ensures ∙ c.in-Some.is in
    field_reads a c.args.self.now _ hs c.args.header.now c.args.field.now c.in-Some.place c.args.term t u found (search rules) r m
