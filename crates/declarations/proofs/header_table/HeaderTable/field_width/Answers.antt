use Rattle.std.proofs.Common.{◌∙◌, ap, sym, map}
use Rattle.std.specs.Prelude.{option_and_then}
use Rattle.cocoon_syntax.specs.TreeOf.{header_of}
use Rattle.declarations.specs.Declares.{width_in}
use Rattle.declarations.proofs.ReaderFacts.{width-read}
use Rattle.declarations.proofs.header_table.HeaderTable.field_width.Goals as goal

pub returns-in_err-number : goal.returns-in_err-number
returns-in_err-number c = rw c.from_residual.ensures (ap (option_and_then (width_in c.args.self.now.fields.items (map header_of c.args.headers.now) c.args.field.now)) (sym c.in_err-number.was ∙ c.number.ensures) ∙ width-read c.args.self.now (map header_of c.args.headers.now) c.requires c.args.header.now c.args.field.now)

pub returns : goal.returns
returns c = c.width_in.ensures ∙ ap (option_and_then (width_in c.args.self.now.fields.items (map header_of c.args.headers.now) c.args.field.now)) (sym c.in_ok-number.was ∙ c.number.ensures) ∙ width-read c.args.self.now (map header_of c.args.headers.now) c.requires c.args.header.now c.args.field.now
