use Rattle.std.proofs.Common.{◌≡◌, ◌++◌, drop}
use Rattle.runtime_defs.specs.Printable.{all_ones}
use Rattle.runtime_defs.proofs.rows.masks.Given as goal

abbrev pub invariant-loop-width : goal.invariant-loop-width
invariant-loop-width l = l.masks.items ++ all_ones (drop l.width-index l.widths) ≡ all_ones l.widths
