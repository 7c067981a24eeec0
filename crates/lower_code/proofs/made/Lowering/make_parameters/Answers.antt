use Rattle.std.proofs.Common.{◌+◌, drop, map, sym, ap, ◌∙◌}
use Rattle.std.proofs.lemmas.List.{drop_all}
use Rattle.cocoon_syntax.specs.TreeOf.{param_of}
use Rattle.lower_code.specs.Growth.{counted, with_parameters}
use Rattle.lower_code.proofs.Steps.{mapped_from, parameters_end, parameters_step}
use Rattle.lower_code.proofs.made.Lowering.make_parameters.Goals as goal

pub loop-param-preserved : goal.loop-param-preserved
loop-param-preserved c = λ d.
    let x = c.param-item.result in
    let i = c.loop-param.param-index in
    let before = counted d c.loop-param.self in
    let rest = map param_of (drop (i + 1) c.args.params.now) in
    c.loop-param.invariant d
    ∙ ap (with_parameters before) (mapped_from param_of c.args.params.now i x c.loop-param-test.true c.param-item.is)
    ∙ parameters_step before (param_of x) rest
    ∙ ap (λ s. with_parameters s rest) (sym (c.in_ok-make_variable.ensures.made d))

pub returns : goal.returns
returns c = λ d.
    sym (c.loop-param.invariant d
    ∙ ap (λ xs. with_parameters (counted d c.loop-param.self) (map param_of xs)) (drop_all c.loop-param.param-index c.args.params.now c.loop-param-test.false)
    ∙ parameters_end (counted d c.loop-param.self))
