use Rattle.std.proofs.Common.{drop, map}
use Rattle.cocoon_syntax.specs.TreeOf.{design_of, entry_of}
use Rattle.runtime_defs.proofs.Reading.{Begun}
use Rattle.runtime_defs.proofs.finding.first_entry_fault.Given as goal

abbrev pub invariant-loop-entry : goal.invariant-loop-entry
invariant-loop-entry l = Begun (design_of l.checked) (map entry_of l.entries) (map entry_of (drop l.entry-index l.entries)) l.defaulted
