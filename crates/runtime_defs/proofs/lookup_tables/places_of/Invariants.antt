use Rattle.std.proofs.Common.{take}
use Rattle.cocoon_syntax.specs.TreeOf.{design_of}
use Rattle.cocoon_types.specs.Design.{functions}
use Rattle.runtime_defs.specs.Made.{ArePlaces}
use Rattle.runtime_defs.proofs.lookup_tables.places_of.Given as goal

abbrev pub invariant-loop-number : goal.invariant-loop-number
invariant-loop-number l = ArePlaces (design_of l.checked) l.lookups 0 (take l.number (functions (design_of l.checked))) l.tables.items
