use Rattle.std.proofs.Common.{◌∙◌, sym, ap}
use Rattle.std.specs.Prelude.{option_and_then}
use Rattle.cocoon_syntax.specs.TreeOf.{design_of}
use Rattle.cocoon_types.specs.Design.{as_function}
use Rattle.declarations.specs.Declares.{fetch}
use Rattle.declarations.proofs.ReaderFacts.{function-read}
use Rattle.declarations.proofs.tables.Declarations.function.Goals as goal

pub returns-in_err-place : goal.returns-in_err-place
returns-in_err-place c = rw c.from_residual.ensures (ap (option_and_then (fetch as_function (design_of c.args.design.now))) (sym c.in_err-place.was ∙ c.place.ensures) ∙ function-read c.args.self.now.decls.functions (design_of c.args.design.now) c.requires.decls.functions c.args.function)

pub returns : goal.returns
returns c = c.function_at.ensures ∙ ap (option_and_then (fetch as_function (design_of c.args.design.now))) (sym c.in_ok-place.was ∙ c.place.ensures) ∙ function-read c.args.self.now.decls.functions (design_of c.args.design.now) c.requires.decls.functions c.args.function
