use Rattle.std.proofs.Common.{◌≡◌, ◌-◌, ◌+◌, map, length, drop, get_or, sym, ap, ◌∙◌, rules, arith, false, if◌then◌else◌, option_map, None}
use Rattle.std.proofs.lemmas.List.{length-map}
use Rattle.cocoon_num.specs.Values.{fits_width, number}
use Rattle.cocoon_syntax.specs.TreeOf.{param_of}
use Rattle.cocoon_types.specs.Val as val
use Rattle.role_values.proofs.Variables.{bind_none, bind_step, bind_uneven, declared_at}
use Rattle.role_values.proofs.bindings.bind.Goals as goal

pub returns-then-params-args : goal.returns-then-params-args
returns-then-params-args c =
    sym (bind_uneven (map param_of c.args.params.now) c.args.args.now
    (λ e. let k : length c.args.params.now ≡ length c.args.args.now = sym (length-map c.args.params.now param_of) ∙ e in omega arith))

pub fits-requires : goal.fits-requires
fits-requires c = (declared_at param_of c.args.params.now (c.loop-at.at - 1) c.index-params-at.result c.requires (omega arith) c.index-params-at.is).1

pub returns-then-not-fits : goal.returns-then-not-fits
returns-then-not-fits c =
    let x = c.index-params-at.result in
    let n = get_or c.args.args.now (c.loop-at.at - 1) 0 in
    let no : fits_width x.width n ≡ false = search rules in
    sym (bind_none param_of (c.loop-at.at - 1) c.args.params.now c.args.args.now (omega arith) (omega arith)
    (bind_step param_of c.args.params.now c.args.args.now (c.loop-at.at - 1) x (omega arith) (omega arith) c.index-params-at.is
    ∙ ap (λ b. if b then option_map (val.bound (param_of x).name.text (number x.width n)) (val.bind (map param_of (drop (c.loop-at.at - 1 + 1) c.args.params.now)) (drop (c.loop-at.at - 1 + 1) c.args.args.now)) else None) no))

pub number_value-value-requires-clause-wide : goal.number_value-value-requires-clause-wide
number_value-value-requires-clause-wide c = (declared_at param_of c.args.params.now (c.loop-at.at - 1) c.index-params-at.result c.requires (omega arith) c.index-params-at.is).0

pub number_value-value-requires-clause-narrow : goal.number_value-value-requires-clause-narrow
number_value-value-requires-clause-narrow c = (declared_at param_of c.args.params.now (c.loop-at.at - 1) c.index-params-at.result c.requires (omega arith) c.index-params-at.is).1
