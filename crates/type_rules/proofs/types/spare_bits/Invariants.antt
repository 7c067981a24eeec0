use Rattle.std.proofs.Common.{◌≡◌, ◌+◌, ◌%◌, ◌<◌, map, drop}
use Rattle.cocoon_num.specs.Packets.{total}
use Rattle.cocoon_syntax.specs.TreeOf.{param_of}
use Rattle.cocoon_types.specs.Design.{widths_of}
use Rattle.type_rules.proofs.types.spare_bits.Given as goal

abbrev pub invariant-loop-field : goal.invariant-loop-field
invariant-loop-field l = record {
  small : l.bits < 8;
  rest : (l.bits + total (widths_of (map param_of (drop l.field-index l.fields)))) % 8 ≡ total (widths_of (map param_of l.fields)) % 8;
}
