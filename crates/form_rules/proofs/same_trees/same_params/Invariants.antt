use Rattle.std.proofs.Common.{◌≡◌, drop, map}
use Rattle.cocoon_syntax.specs.TreeOf.{param_of}
use Rattle.cocoon_types.specs.SameTrees.{same_params}
use Rattle.form_rules.proofs.same_trees.same_params.Given as goal

abbrev pub invariant-loop-param : goal.invariant-loop-param
invariant-loop-param l = same_params (map param_of (drop l.param-index l.params)) (map param_of l.rest) ≡ same_params (map param_of l.params) (map param_of l.others)
