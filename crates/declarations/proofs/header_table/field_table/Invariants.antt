use Rattle.std.proofs.Common.{map, take}
use Rattle.cocoon_syntax.specs.TreeOf.{param_of}
use Rattle.numbering.specs.NameNumbers.{Numbers}
use Rattle.declarations.specs.Declares.{field_texts}
use Rattle.declarations.proofs.header_table.field_table.Given as goal

abbrev pub invariant-loop-field : goal.invariant-loop-field
invariant-loop-field l = Numbers l.table (field_texts (map param_of (take l.field-index l.fields)))
