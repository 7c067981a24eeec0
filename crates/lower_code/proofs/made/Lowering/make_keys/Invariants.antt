use Rattle.std.proofs.Common.{◌≡◌, drop, map}
use Rattle.cocoon_num.specs.Tree.{Design}
use Rattle.cocoon_syntax.specs.TreeOf.{param_of}
use Rattle.lower_code.specs.Growth.{counted, with_keys}
use Rattle.lower_code.proofs.made.Lowering.make_keys.Given as goal

abbrev pub invariant-loop-param : goal.invariant-loop-param
invariant-loop-param l = (d : Design)
    → with_keys (counted d l.fn.self) l.app 0 (map param_of l.params) ≡ with_keys (counted d l.self) l.app l.key (map param_of (drop l.param-index l.params))
