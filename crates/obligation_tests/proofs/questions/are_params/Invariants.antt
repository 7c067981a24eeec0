use Rattle.std.proofs.Common.{◌≡◌, drop, map}
use Rattle.cocoon_syntax.specs.TreeOf.{param_of}
use Rattle.obligation_tests.specs.Asked.{are_params}
use Rattle.obligation_tests.proofs.questions.are_params.Given as goal

abbrev pub invariant-loop-at : goal.invariant-loop-at
invariant-loop-at l = are_params l.terms (map param_of l.params) l.ids ≡ are_params l.terms (map param_of (drop l.at l.params)) (drop l.at l.ids)
