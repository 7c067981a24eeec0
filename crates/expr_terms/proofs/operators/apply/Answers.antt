use Rattle.std.proofs.Common.{◌∙◌, ap}
use Rattle.std.proofs.lemmas.Result.{IfOk-weaker}
use Rattle.bv_terms.specs.TermTrees as term
use Rattle.expr_terms.proofs.Arguments.{arguments_are}
use Rattle.expr_terms.proofs.operators.apply.Goals as goal

pub returns-clause-made : goal.returns-clause-made
returns-clause-made c =
    IfOk-weaker c.apply.result _ _
    (λ id put. record { there = put.there; term = put.term ∙ ap (λ ts. term.apply c.args.function ts c.args.width) (arguments_are c.args.terms.now c.args.args.now) })
    c.apply.ensures.put
