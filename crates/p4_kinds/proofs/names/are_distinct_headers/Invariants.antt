use Rattle.std.proofs.Common.{◌≤◌, length, drop, map}
use Rattle.p4_ir.specs.Program.{header_of}
use Rattle.p4_kinds.specs.Parts.{header_name}
use Rattle.p4_kinds.proofs.NameFacts.{AreSeen}
use Rattle.p4_kinds.proofs.names.are_distinct_headers.Given as goal

abbrev pub invariant-loop-left : goal.invariant-loop-left
invariant-loop-left l = record {
  within : l.left ≤ length l.headers;
  seen : AreSeen (map header_name (map header_of (drop l.left l.headers))) l.later.keys;
}

abbrev pub decreases-loop-left : goal.decreases-loop-left
decreases-loop-left l = l.left
