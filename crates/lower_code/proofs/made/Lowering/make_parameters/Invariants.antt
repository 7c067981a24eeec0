use Rattle.std.proofs.Common.{◌≡◌, drop, map}
use Rattle.cocoon_num.specs.Tree.{Design}
use Rattle.cocoon_syntax.specs.TreeOf.{param_of}
use Rattle.lower_code.specs.Growth.{counted, with_parameters}
use Rattle.lower_code.proofs.made.Lowering.make_parameters.Given as goal

abbrev pub invariant-loop-param : goal.invariant-loop-param
invariant-loop-param l = (d : Design)
    → with_parameters (counted d l.fn.self) (map param_of l.params) ≡ with_parameters (counted d l.self) (map param_of (drop l.param-index l.params))
