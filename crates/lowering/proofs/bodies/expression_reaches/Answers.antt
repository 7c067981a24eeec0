use Rattle.std.specs.Prelude.{◌≡◌, true}
use Rattle.lowering.proofs.Expressions as lemmas
use Rattle.lowering.proofs.Calls as calls
use Rattle.lowering.specs.Agrees.{TakesIn, inner_context}
use Rattle.lowering.specs.Lower.{callees}
use Rattle.lowering.proofs.bodies.expression_reaches.Goals as goal

pub returns : goal.returns
returns c at fill headers fs port layout fits wanted e vars env packet n s v low holds reads takes made long is =
    lemmas.expr_reaches at fill (TakesIn fs) (λ f ns. ⊥) (λ x. wanted x ≡ true) (inner_context headers fill.defs fs) (callees headers fs port) (calls.functions_agree_plain at fill headers fs port layout fits)
    e vars env packet n s v low holds reads takes made long is
