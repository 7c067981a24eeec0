use Rattle.std.proofs.Common.{◌≤◌, length, drop, map}
use Rattle.p4_ir.specs.Program.{field_of}
use Rattle.p4_kinds.specs.Parts.{field_name}
use Rattle.p4_kinds.proofs.NameFacts.{AreSeen}
use Rattle.p4_kinds.proofs.names.are_distinct_fields.Given as goal

abbrev pub invariant-loop-left : goal.invariant-loop-left
invariant-loop-left l = record {
  within : l.left ≤ length l.fields;
  seen : AreSeen (map field_name (map field_of (drop l.left l.fields))) l.later.keys;
}

abbrev pub decreases-loop-left : goal.decreases-loop-left
decreases-loop-left l = l.left
