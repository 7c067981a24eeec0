use Rattle.std.proofs.Common.{◌≡◌, ◌+◌, ◌≤◌, rules, [], ◌∷◌, ◌++◌, length, map, take, sym, subst, arith}
use Rattle.std.proofs.lemmas.List.{take_all}
use Rattle.cocoon_syntax.specs.TreeOf.{param_of}
use Rattle.cocoon_types.specs.Design.{widths_of}
use Rattle.fun_instances.specs.OwnInputs.{HasInputs}
use Rattle.fun_instances.proofs.OwnInputs.{new_input, no_inputs, width_at_place, widths_more}
use Rattle.fun_instances.proofs.own.parameter_inputs.Goals as goal

pub loop-param-init : goal.loop-param-init
loop-param-init c =
    let none : c.new-inputs.result.items ≡ [] = search rules in
    subst (λ n. HasInputs n c.new-inputs.result.items []) (sym c.requires.fresh) (subst (λ xs. HasInputs [] xs []) (sym none) no_inputs)

pub parameter_input-requires : goal.parameter_input-requires
parameter_input-requires c = width_at_place c.args.params.now c.requires.widths c.loop-param.param-index c.param-item.result c.loop-param-test.true c.param-item.is

pub loop-param-preserved : goal.loop-param-preserved
loop-param-preserved c =
    let ps = c.args.params.now in
    let i = c.loop-param.param-index in
    let p = c.param-item.result in
    let old = c.loop-param.terms in
    let new = c.parameter_input.new.terms in
    let ids = c.loop-param.inputs.items in
    let id = c.in_ok-parameter_input.field-0 in
    let ws = widths_of (map param_of (take i ps)) in
    subst (λ xs. HasInputs new xs (widths_of (map param_of (take (i + 1) ps)))) (sym c.in_ok-push.ensures.items)
    (subst (HasInputs new (ids ++ id ∷ [])) (sym (widths_more ps i p c.loop-param-test.true c.param-item.is))
    (new_input old new ids ws (param_of p).width id c.loop-param.invariant c.in_ok-parameter_input.ensures))

pub returns : goal.returns
returns c =
    let ps = c.args.params.now in
    let done : length ps ≤ c.loop-param.param-index = (let more = c.loop-param-test.false in omega (arith, more)) in
    subst (λ qs. HasInputs c.loop-param.terms c.loop-param.inputs.items (widths_of (map param_of qs))) (take_all c.loop-param.param-index ps done) c.loop-param.invariant
