use Rattle.std.proofs.Common.{◌∙◌, map, sym}
use Rattle.std.proofs.lemmas.List.{length-map}
use Rattle.cocoon_syntax.specs.TreeOf.{param_of}
use Rattle.cocoon_types.specs.Design.{widths_of}
use Rattle.queries.proofs.Widths.{uneven}
use Rattle.queries.proofs.fitting.numbers_fit.Goals as goal

pub returns-then-params-numbers : goal.returns-then-params-numbers
returns-then-params-numbers c =
    uneven (widths_of (map param_of c.args.params.now)) c.args.numbers.now
    (λ e. c.if-params-numbers.true (sym (length-map (map param_of c.args.params.now) (λ p. p.width) ∙ length-map c.args.params.now param_of) ∙ e))
