use Rattle.std.proofs.Common.{map}
use Rattle.p4_ir.specs.Program as ir
use Rattle.p4_resolve.proofs.DeclarationFacts.{SoFar}
use Rattle.p4_resolve.proofs.FieldForms.{of_headers}
use Rattle.p4_resolve.proofs.fields.fields.Given as goal

abbrev pub invariant-loop-written : goal.invariant-loop-written
invariant-loop-written l = SoFar of_headers l.at l.fields l.before.keys (map ir.field_of l.made.items) l.next l.written-index
