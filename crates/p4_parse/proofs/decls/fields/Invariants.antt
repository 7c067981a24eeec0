use Rattle.std.proofs.Common.{length, map, ◌-◌}
use Rattle.p4_texts.specs.TreeOf.{field_of}
use Rattle.p4_parse.proofs.FieldPhrases.{FieldsSoFar}
use Rattle.p4_parse.proofs.decls.fields.Given as goal

abbrev pub invariant-fields : goal.invariant-fields
invariant-fields l = record { is : FieldsSoFar l.source l.pos (map field_of l.fields.items) l.next }

abbrev pub decreases-fields : goal.decreases-fields
decreases-fields l = length l.source - l.next
