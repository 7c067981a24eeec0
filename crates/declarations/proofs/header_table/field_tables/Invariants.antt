use Rattle.std.proofs.Common.{map, take}
use Rattle.cocoon_syntax.specs.TreeOf.{header_of}
use Rattle.declarations.specs.Declares.{HoldsFields}
use Rattle.declarations.proofs.header_table.field_tables.Given as goal

abbrev pub invariant-loop-header : goal.invariant-loop-header
invariant-loop-header l = HoldsFields l.tables.items (map header_of (take l.header-index l.headers))
