use Rattle.std.proofs.Common.{map, take}
use Rattle.numbering.specs.NumberPlaces.{HasPlaces}
use Rattle.p4_ir.specs.NetOf.{group_of}
use Rattle.p4_run.proofs.GroupSteps.{group_numbers}
use Rattle.p4_run.proofs.places.group_places.Given as goal

abbrev pub invariant-loop-group : goal.invariant-loop-group
invariant-loop-group l = HasPlaces l.places (group_numbers (map group_of (take l.group-index l.group-items)))
