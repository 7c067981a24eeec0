use Rattle.std.proofs.Common.{map, sym, ap, ◌∙◌}
use Rattle.cocoon_syntax.specs.TreeOf.{param_of}
use Rattle.lowering.specs.Lower.{params_before_last}
use Rattle.lower_code.proofs.BeforeLast.{params_back}
use Rattle.lower_code.proofs.calls.params_before_last.Goals as goal

pub returns-in-Some : goal.returns-in-Some
returns-in-Some c =
    params_back param_of c.in-Some.before.now c.in-Some.field-0-0.now ∙ ap (λ xs. params_before_last (map param_of xs)) (sym c.in-Some.ensures.cases.0)
