use Rattle.std.proofs.Common.{◌≡◌, ◌+◌, take}
use Rattle.bit_blast.specs.Counts.{total_clauses}
use Rattle.bit_blast.specs.Orders.{terms_of}
use Rattle.bit_blast.proofs.counts.clause_count.Given as goal

abbrev pub invariant-loop-term : goal.invariant-loop-term
invariant-loop-term l = l.count ≡ total_clauses (terms_of l.terms (take l.term-index l.order)) + 2
