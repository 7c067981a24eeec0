use Rattle.std.proofs.Common.{take}
use Rattle.std.specs.List.{All}
use Rattle.bv_terms.specs.Arenas.{width_at}
use Rattle.bv_terms.specs.Nodes.{FitsNode}
use Rattle.obligation_tests.proofs.Made.{IsAt}
use Rattle.obligation_tests.proofs.fitting.tables_fit.Given as goal

abbrev pub invariant-loop-id : goal.invariant-loop-id
invariant-loop-id l = All (IsAt (FitsNode l.tables (width_at l.terms)) l.terms) (take l.id-index l.id-items)
