use Rattle.std.proofs.Common.{◌≡◌, ◌≤◌, drop, length, map, option_map}
use Rattle.cocoon_num.specs.PacketForms.{FieldsFit}
use Rattle.cocoon_resolve.specs.Readers.{all_widths}
use Rattle.cocoon_syntax.specs.TreeOf.{header_of}
use Rattle.role_values.specs.FieldPlaces.{later, place_of}
use Rattle.role_values.proofs.fields.place_of.Given as goal

abbrev pub invariant-loop-declared : goal.invariant-loop-declared
invariant-loop-declared l = record {
  within : l.before ≤ length l.numbers;
  same : place_of (map header_of l.headers) l.header l.field ≡ option_map (later l.before) (place_of (map header_of (drop l.declared-index l.headers)) l.header l.field);
  fits : FieldsFit (all_widths (map header_of (drop l.declared-index l.headers))) (drop l.before l.numbers);
}
