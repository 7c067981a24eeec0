use Rattle.std.proofs.Common.{map, take}
use Rattle.cocoon_syntax.specs.TreeOf.{header_of}
use Rattle.numbering.specs.NameNumbers.{Numbers}
use Rattle.declarations.specs.Declares.{header_texts}
use Rattle.declarations.proofs.header_table.header_names.Given as goal

abbrev pub invariant-loop-header : goal.invariant-loop-header
invariant-loop-header l = Numbers l.table (header_texts (map header_of (take l.header-index l.headers)))
