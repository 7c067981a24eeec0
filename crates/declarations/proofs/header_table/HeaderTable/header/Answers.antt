use Rattle.std.proofs.Common.{◌∙◌, sym, ap, map, slice_get}
use Rattle.std.specs.Prelude.{option_and_then}
use Rattle.cocoon_syntax.specs.TreeOf.{header_of}
use Rattle.declarations.proofs.ReaderFacts.{header-read, map-item}
use Rattle.declarations.proofs.header_table.HeaderTable.header.Goals as goal

pub returns-in_err-number : goal.returns-in_err-number
returns-in_err-number c = rw c.from_residual.ensures (ap (option_and_then (slice_get (map header_of c.args.headers.now))) (sym c.in_err-number.was ∙ c.number.ensures) ∙ header-read c.args.self.now (map header_of c.args.headers.now) c.requires c.args.name.now)

pub returns : goal.returns
returns c = map-item header_of c.item.result c.args.headers.now c.in_ok-number.field-0 c.item.ensures ∙ ap (option_and_then (slice_get (map header_of c.args.headers.now))) (sym c.in_ok-number.was ∙ c.number.ensures) ∙ header-read c.args.self.now (map header_of c.args.headers.now) c.requires c.args.name.now
