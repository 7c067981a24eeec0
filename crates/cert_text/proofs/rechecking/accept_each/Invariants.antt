use Rattle.cocoon_syntax.specs.TreeOf.{design_of}
use Rattle.cert_text.proofs.Accepting.{UpTo}
use Rattle.cert_text.proofs.rechecking.accept_each.Given as goal

abbrev pub invariant-loop-number : goal.invariant-loop-number
invariant-loop-number l = UpTo (design_of l.checked) l.certs l.number
