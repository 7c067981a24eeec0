use Rattle.std.proofs.Common.{◌≡◌, ◌++◌, drop, map}
use Rattle.cocoon_syntax.specs.TreeOf.{param_of}
use Rattle.lowering.specs.Lower.{numbers_from}
use Rattle.lower_code.proofs.calls.numbers.Given as goal

abbrev pub invariant-loop : goal.invariant-loop
invariant-loop l = numbers_from l.first (map param_of l.params) ≡ l.numbers.items ++ numbers_from l.number (map param_of (drop l.index l.params))
