use Rattle.std.proofs.Common.{◌∙◌, map, sym}
use Rattle.std.proofs.lemmas.List.{length-map}
use Rattle.cocoon_syntax.specs.TreeOf.{param_of}
use Rattle.cocoon_types.specs.Design.{widths_of}
use Rattle.step_cases.proofs.Widths.{uneven}
use Rattle.step_cases.proofs.fit.values_fit.Goals as goal

pub returns-then-params-values : goal.returns-then-params-values
returns-then-params-values c =
    uneven (widths_of (map param_of c.args.params.now)) c.args.values.now
    (λ e. c.if-params-values.true (sym (length-map (map param_of c.args.params.now) (λ p. p.width) ∙ length-map c.args.params.now param_of) ∙ e))
