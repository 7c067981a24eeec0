use Rattle.lowering.proofs.Copies as copies
use Rattle.lowering.proofs.Calls as calls
use Rattle.lowering.specs.Agrees.{TakesIn, inner_context}
use Rattle.lowering.specs.Lower.{callees}
use Rattle.lowering.proofs.bodies.copy_ends.Goals as goal

pub returns : goal.returns
returns c at out fill headers fs port same layout fits n sites f env packet r e low k nums settled rid is thin wide inside typed made first =
    copies.copy_sends at out fill (TakesIn fs) (λ g ns. ⊥) (λ x. Unit {0}) (inner_context headers fill.defs fs) (callees headers fs port) (λ x. tt) same n sites f env packet r e
    (calls.functions_agree_plain out fill headers fs port layout fits) low k nums settled rid is thin wide inside typed made first
