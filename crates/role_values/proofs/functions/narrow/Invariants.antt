use Rattle.std.proofs.Common.{◌≡◌, drop, take}
use Rattle.role_values.specs.ByTables.{all_fit_widths}
use Rattle.role_values.proofs.functions.narrow.Given as goal

abbrev pub invariant-loop-index : goal.invariant-loop-index
invariant-loop-index l = record {
  narrowed : l.narrowed.items ≡ take l.index l.args;
  same : all_fit_widths l.widths l.args ≡ all_fit_widths (drop l.index l.widths) (drop l.index l.args);
}
