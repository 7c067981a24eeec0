use Rattle.std.proofs.Common.{length, sym, ap, ◌∙◌}
use Rattle.cocoon_syntax.specs.TreeOf.{design_of, function_of}
use Rattle.cocoon_types.specs.Design.{functions}
use Rattle.runtime_defs.proofs.Few.{few-functions, some-within}
use Rattle.runtime_defs.proofs.lookup_tables.is_function.Goals as goal

pub returns-clause-few : goal.returns-clause-few
returns-clause-few c = λ h. some-within (λ f. function_of f.now) c.function.result (functions (design_of c.design.result.now)) c.args.number (length (functions (design_of c.args.checked.now)))
    c.function.ensures (sym c.is_some.ensures ∙ h) (ap (λ t. length (functions (design_of t))) c.design.ensures.is) (few-functions (design_of c.args.checked.now) c.design.ensures.resolves)
