use Rattle.std.proofs.Common.{◌<◌, ◌≤◌, length, take}
use Rattle.std.specs.List.{All}
use Rattle.bv_terms.specs.Arenas.{width_at}
use Rattle.obligation_tests.proofs.building.are_arguments.Given as goal

abbrev pub invariant-loop-arg : goal.invariant-loop-arg
invariant-loop-arg l = record {
  there : All (λ a. a < length l.terms) (take l.arg-index l.args);
  narrow : All (λ a. width_at l.terms a ≤ 64) (take l.arg-index l.args);
}
