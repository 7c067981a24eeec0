use Rattle.std.proofs.Common.{take}
use Rattle.bit_blast.specs.Orders.{IsEmitted, terms_of}
use Rattle.bit_blast.proofs.emit.emit.Given as goal

abbrev pub invariant-loop-term : goal.invariant-loop-term
invariant-loop-term l = IsEmitted l.terms (terms_of l.terms (take l.term-index l.order)) l.gates l.table
