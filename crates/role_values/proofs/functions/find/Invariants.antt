use Rattle.std.proofs.Common.{◌≡◌, ◌≤◌, ℕ, List}
use Rattle.cocoon_syntax.specs.TreeOf.{design_of}
use Rattle.role_values.specs.ByTables.{apply_by, earlier}
use Rattle.role_values.proofs.functions.find.Given as goal

abbrev pub invariant-loop-at : goal.invariant-loop-at
invariant-loop-at l = record {
  within : l.at ≤ l.before;
  same : (ns : List ℕ) → apply_by l.defs (earlier (design_of l.checked) l.before) l.name ns ≡ apply_by l.defs (earlier (design_of l.checked) l.at) l.name ns;
}

abbrev pub decreases-loop-at : goal.decreases-loop-at
decreases-loop-at l = l.at
