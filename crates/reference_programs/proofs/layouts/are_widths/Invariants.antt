use Rattle.std.proofs.Common.{◌≡◌, drop}
use Rattle.cocoon_num.specs.Lists.{each}
use Rattle.cocoon_num.specs.Sorts.{is_declared_width}
use Rattle.reference_programs.proofs.layouts.are_widths.Given as goal

abbrev pub invariant-loop-width : goal.invariant-loop-width
invariant-loop-width l = each is_declared_width (drop l.width-index l.widths) ≡ each is_declared_width l.widths
