use Rattle.std.proofs.Common.{List, map, ap, ◌∙◌}
use Rattle.cocoon_syntax.specs.TreeOf.{param_of}
use Rattle.lower_code.specs.Growth.{counted, with_parameters}
use Rattle.lower_code.proofs.calls.bind_args.Goals as goal

pub returns-clause-state : goal.returns-clause-state
returns-clause-state c = λ d.
    let made = c.in_ok-make_parameters.ensures d ∙ ap (λ (ps : List _). with_parameters (counted d c.args.to.now) (map param_of ps)) c.deref-2.ensures.value in
    (λ i. record { code = c.in_ok-set_fields.ensures i; made = (made i).made; next = (made i).next })
