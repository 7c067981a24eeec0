use Rattle.std.proofs.Common.{◌≡◌, take}
use Rattle.bv_terms.specs.Evaluated.{numbers_in}
use Rattle.bv_terms.proofs.eval.arguments.Given as goal

abbrev pub invariant-loop-arg : goal.invariant-loop-arg
invariant-loop-arg l = l.numbers.items ≡ numbers_in l.values (take l.arg-index l.args)
