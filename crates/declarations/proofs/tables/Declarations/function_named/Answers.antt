use Rattle.std.proofs.Common.{◌∙◌, sym, ap, slice_get}
use Rattle.std.specs.Prelude.{option_and_then}
use Rattle.cocoon_syntax.specs.TreeOf.{design_of}
use Rattle.cocoon_types.specs.Design.{functions}
use Rattle.declarations.proofs.ReaderFacts.{function-named}
use Rattle.declarations.proofs.tables.Declarations.function_named.Goals as goal

pub returns-in_err-function_of : goal.returns-in_err-function_of
returns-in_err-function_of c = rw c.from_residual.ensures (ap (option_and_then (slice_get (functions (design_of c.args.design.now)))) (sym c.in_err-function_of.was ∙ c.function_of.ensures) ∙ function-named (design_of c.args.design.now) c.args.name.now)

pub returns : goal.returns
returns c = c.function.ensures ∙ ap (option_and_then (slice_get (functions (design_of c.args.design.now)))) (sym c.in_ok-function_of.was ∙ c.function_of.ensures) ∙ function-named (design_of c.args.design.now) c.args.name.now
