use Rattle.std.proofs.Common.{◌≤◌, ◌-◌, length}
use Rattle.cocoon_syntax.specs.TreeOf.{design_of}
use Rattle.cocoon_types.specs.Design.{functions}
use Rattle.runtime_defs.proofs.lookup_tables.function_count.Given as goal

abbrev pub invariant-loop-count : goal.invariant-loop-count
invariant-loop-count l = record {
  within : l.count ≤ length (functions (design_of l.checked));
  few : l.count ≤ 128;
}

abbrev pub decreases-loop-count : goal.decreases-loop-count
decreases-loop-count l = length (functions (design_of l.checked)) - l.count
