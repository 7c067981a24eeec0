use Rattle.std.proofs.Common.{map, take}
use Rattle.p4_texts.specs.Meant.{names_of}
use Rattle.p4_texts.specs.TreeOf.{field_of}
use Rattle.numbering.specs.NameNumbers.{Numbers}
use Rattle.p4_resolve.proofs.scope.field_names.Given as goal

abbrev pub invariant-loop-field : goal.invariant-loop-field
invariant-loop-field l = Numbers l.names (names_of (map field_of (take l.field-index l.fields)))
