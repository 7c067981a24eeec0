use Rattle.std.proofs.Common.{◌<◌, ◌≤◌, ◌==◌, length, map, rules, subst, sym}
use Rattle.std.proofs.Math.Bool.{and-false}
use Rattle.std.proofs.lemmas.List.{drop_all}
use Rattle.cocoon_syntax.specs.TreeOf.{param_of}
use Rattle.cocoon_types.specs.FirstFault.{rank}
use Rattle.cocoon_types.specs.Noting.{Notes}
use Rattle.cocoon_types.specs.Rules.{too_wide}
use Rattle.cocoon_types.specs.TypeRules.{wide_params}
use Rattle.type_rules.specs.Tests.{fails_among}
use Rattle.type_rules.proofs.DeclSteps.{widths_step}
use Rattle.type_rules.proofs.decls.note_widths.Goals as goal

pub loop-param-preserved : goal.loop-param-preserved
loop-param-preserved c = λ last h.
    let within : c.loop-param.param-index < length c.args.params.now = search rules in
    c.loop-param.invariant last (widths_step c.noting_laws.ensures c.args.params.now c.loop-param.param-index c.param-item.result within c.param-item.is c.note_width.ensures h)

pub returns : goal.returns
returns c =
    let all : length c.args.params.now ≤ c.loop-param.param-index = search rules in
    c.loop-param.invariant c.loop-param.noted
    (subst (λ xs. Notes (fails_among too_wide (wide_params (map param_of xs))) c.loop-param.noted c.loop-param.noted) (sym (drop_all c.loop-param.param-index c.args.params.now all))
    (c.noting_laws.ensures.nothing _ c.loop-param.noted (λ f. and-false (rank f.rule == rank too_wide))))
