use Rattle.std.proofs.Common.{◌≡◌, ◌<◌, get_or, sym, ap, subst, ◌^◌, ◌∙◌, rules, arith, true, false, Some}
use Rattle.cocoon_num.specs.Names.{same_name}
use Rattle.cocoon_num.specs.Values.{number}
use Rattle.cocoon_syntax.specs.TreeOf.{param_of}
use Rattle.role_values.proofs.FieldSteps.{count_of_fit, fit_at, read_here, read_past}
use Rattle.role_values.proofs.Variables.{declared_at}
use Rattle.role_values.proofs.fields.read_in.Goals as goal

pub bounds-numbers-index : goal.bounds-numbers-index
bounds-numbers-index c = let many = count_of_fit param_of c.args.params.now c.args.numbers.now c.requires.fits in omega arith

pub number_value-requires-clause-wide : goal.number_value-requires-clause-wide
number_value-requires-clause-wide c = (declared_at param_of c.args.params.now c.loop-index.index c.index-params-index.result c.requires.widths (omega arith) c.index-params-index.is).0

pub number_value-requires-clause-narrow : goal.number_value-requires-clause-narrow
number_value-requires-clause-narrow c = (declared_at param_of c.args.params.now c.loop-index.index c.index-params-index.result c.requires.widths (omega arith) c.index-params-index.is).1

pub number_value-requires-clause-fits : goal.number_value-requires-clause-fits
number_value-requires-clause-fits c =
    let e : c.from.result ≡ get_or c.args.numbers.now c.loop-index.index 0 = search rules in
    subst (λ n. n < 2 ^ c.index-params-index.result.width) (sym e) (fit_at param_of c.args.params.now c.args.numbers.now c.loop-index.index c.index-params-index.result 0 c.requires.fits (omega arith) c.index-params-index.is)

pub returns-then-is_same : goal.returns-then-is_same
returns-then-is_same c =
    let many = count_of_fit param_of c.args.params.now c.args.numbers.now c.requires.fits in
    let x = c.index-params-index.result in
    let yes : same_name c.args.field.now x.name.text ≡ true = search rules in
    let e : c.from.result ≡ get_or c.args.numbers.now c.loop-index.index 0 = search rules in
    ap Some (c.number_value.ensures ∙ ap (number x.width) e) ∙ sym (c.loop-index.invariant ∙ read_here param_of c.args.params.now c.args.numbers.now c.loop-index.index x c.args.field.now (omega arith) (omega arith) c.index-params-index.is yes)

pub loop-index-preserved : goal.loop-index-preserved
loop-index-preserved c =
    let many = count_of_fit param_of c.args.params.now c.args.numbers.now c.requires.fits in
    let x = c.index-params-index.result in
    let no : same_name c.args.field.now x.name.text ≡ false = search rules in
    c.loop-index.invariant ∙ read_past param_of c.args.params.now c.args.numbers.now c.loop-index.index x c.args.field.now (omega arith) (omega arith) c.index-params-index.is no
