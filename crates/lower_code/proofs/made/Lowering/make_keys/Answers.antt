use Rattle.std.proofs.Common.{◌≡◌, ◌+◌, suc, drop, map, sym, ap, ◌∙◌, arith}
use Rattle.std.proofs.lemmas.List.{drop_all}
use Rattle.lowering.specs.Lower.{key_name}
use Rattle.cocoon_syntax.specs.TreeOf.{param_of}
use Rattle.lower_code.specs.Growth.{counted, with_field, with_keys}
use Rattle.lower_code.proofs.Steps.{keys_end, keys_step, mapped_from}
use Rattle.lower_code.proofs.made.Lowering.make_keys.Goals as goal

pub loop-param-preserved : goal.loop-param-preserved
loop-param-preserved c = λ d.
    let x = c.param-item.result in
    let i = c.loop-param.param-index in
    let before = counted d c.loop-param.self in
    let rest = map param_of (drop (i + 1) c.args.params.now) in
    let next : suc c.loop-param.key ≡ c.in_ok-key.key = omega arith in
    c.loop-param.invariant d
    ∙ ap (with_keys before c.args.app c.loop-param.key) (mapped_from param_of c.args.params.now i x c.loop-param-test.true c.param-item.is)
    ∙ keys_step before c.args.app c.loop-param.key (param_of x) rest
    ∙ ap (λ k. with_keys (with_field before (key_name c.args.app c.loop-param.key) x.width) c.args.app k rest) next
    ∙ ap (λ s. with_keys s c.args.app c.in_ok-key.key rest) (sym (c.in_ok-make_field.ensures.made d))

pub returns : goal.returns
returns c = λ d.
    sym (c.loop-param.invariant d
    ∙ ap (λ xs. with_keys (counted d c.loop-param.self) c.args.app c.loop-param.key (map param_of xs)) (drop_all c.loop-param.param-index c.args.params.now c.loop-param-test.false)
    ∙ keys_end (counted d c.loop-param.self) c.args.app c.loop-param.key)
