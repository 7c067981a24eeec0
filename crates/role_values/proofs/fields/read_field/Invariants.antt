use Rattle.std.proofs.Common.{◌≡◌, drop, map}
use Rattle.cocoon_num.specs.PacketForms.{FieldsFit}
use Rattle.cocoon_resolve.specs.Readers.{all_widths}
use Rattle.cocoon_syntax.specs.TreeOf.{header_of}
use Rattle.cocoon_types.specs.Design.{read_field}
use Rattle.role_values.specs.DeclaredWidths.{AllDeclared}
use Rattle.role_values.specs.Flat.{packet_of}
use Rattle.role_values.proofs.fields.read_field.Given as goal

abbrev pub invariant-loop-declared : goal.invariant-loop-declared
invariant-loop-declared l = record {
  same : read_field (map header_of l.headers) (packet_of (map header_of l.headers) l.numbers) l.header l.field
      ≡ read_field (map header_of (drop l.declared-index l.headers)) (packet_of (map header_of (drop l.declared-index l.headers)) l.rest) l.header l.field;
  fits : FieldsFit (all_widths (map header_of (drop l.declared-index l.headers))) l.rest;
  widths : AllDeclared (all_widths (map header_of (drop l.declared-index l.headers)));
}
