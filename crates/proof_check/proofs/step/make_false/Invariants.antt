use Rattle.std.proofs.Common.{◌≡◌, map, take}
use Rattle.cnf_core.specs.Deriving.{IsProper}
use Rattle.cnf_core.specs.Literals.{opposite}
use Rattle.cnf_core.specs.Trails.{numbers}
use Rattle.cnf_core.specs.TrailViews.{room, trues}
use Rattle.proof_check.proofs.step.make_false.Given as goal

abbrev pub invariant-loop-lit : goal.invariant-loop-lit
invariant-loop-lit l = record {
  falsified : trues l.trail ≡ map opposite (numbers (take l.lit-index l.lit-items));
  same_room : room l.trail ≡ room l.fn.trail;
  proper : IsProper (room l.fn.trail) (numbers (take l.lit-index l.lit-items));
}
