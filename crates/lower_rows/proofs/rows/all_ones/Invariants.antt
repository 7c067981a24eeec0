use Rattle.std.proofs.Common.{◌≡◌, map, take}
use Rattle.cocoon_syntax.specs.TreeOf.{param_of}
use Rattle.cocoon_types.specs.Design.{widths_of}
use Rattle.runtime_defs.specs.Printable.{all_ones}
use Rattle.lower_rows.proofs.rows.all_ones.Given as goal

abbrev pub invariant-loop-param : goal.invariant-loop-param
invariant-loop-param l = l.masks.items ≡ all_ones (widths_of (map param_of (take l.param-index l.params)))
