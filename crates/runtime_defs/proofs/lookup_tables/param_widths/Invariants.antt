use Rattle.std.proofs.Common.{◌≡◌, ◌++◌, drop, map}
use Rattle.cocoon_syntax.specs.TreeOf.{param_of}
use Rattle.cocoon_types.specs.Design.{widths_of}
use Rattle.runtime_defs.proofs.lookup_tables.param_widths.Given as goal

abbrev pub invariant-loop-param : goal.invariant-loop-param
invariant-loop-param l = l.widths.items ++ widths_of (map param_of (drop l.param-index l.params)) ≡ widths_of (map param_of l.params)
