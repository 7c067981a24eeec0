use Rattle.std.proofs.Common.{◌≡◌, ◌+◌, ◌≤◌, drop, length, map, option_map}
use Rattle.cocoon_resolve.specs.Readers.{all_widths}
use Rattle.cocoon_syntax.specs.TreeOf.{header_of}
use Rattle.symbolic_runs.specs.Places.{later, place_of}
use Rattle.symbolic_runs.proofs.fields.place_of.Given as goal

abbrev pub invariant-loop-declared : goal.invariant-loop-declared
invariant-loop-declared l = record {
  within : l.before + length (all_widths (map header_of (drop l.declared-index l.headers))) ≤ length l.fields;
  same : place_of (map header_of l.headers) l.header l.field ≡ option_map (later l.before) (place_of (map header_of (drop l.declared-index l.headers)) l.header l.field);
}
