use Rattle.std.specs.Prelude.{◌≡◌, true}
use Rattle.lowering.proofs.Blocks as lemmas
use Rattle.lowering.proofs.Calls as calls
use Rattle.lowering.specs.Agrees.{GroupTakesIn, TakesIn, inner_context}
use Rattle.lowering.specs.Lower.{callees}
use Rattle.lowering.proofs.bodies.body_ends.Goals as goal

pub returns : goal.returns
returns c at fill headers fs port p at_port layout fits wanted b vars env packet n s low holds same clear typed made long =
    lemmas.block_ends at fill (TakesIn fs) (GroupTakesIn fs) (λ x. wanted x ≡ true) (inner_context headers fill.defs fs) (callees headers fs port) (calls.functions_agree at fill headers fs port p at_port layout fits)
    b vars env packet n s low holds same clear typed made long
