use Rattle.std.proofs.Common.{map, take}
use Rattle.std.specs.List.{AllZip}
use Rattle.cocoon_syntax.specs.TreeOf.{design_of, entry_of}
use Rattle.cocoon_types.specs.Design.{functions}
use Rattle.runtime_defs.specs.Bound.{IsPlace}
use Rattle.runtime_defs.proofs.tables.tables_of.Given as goal

abbrev pub invariant-loop-number : goal.invariant-loop-number
invariant-loop-number l = AllZip (IsPlace (map entry_of l.entries)) (take l.number (functions (design_of l.checked))) l.tables.items
