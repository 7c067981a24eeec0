use Rattle.std.proofs.Common.{map}
use Rattle.p4_ir.specs.Program as ir
use Rattle.p4_resolve.proofs.DeclarationFacts.{SoFar}
use Rattle.p4_resolve.proofs.FieldForms.{of_texts}
use Rattle.p4_resolve.proofs.headers.headers.Given as goal

abbrev pub invariant-loop-written : goal.invariant-loop-written
invariant-loop-written l = SoFar of_texts l.at l.headers l.before.keys (map ir.header_of l.made.items) l.next l.written-index
