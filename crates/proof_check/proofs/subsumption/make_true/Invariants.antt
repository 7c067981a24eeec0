use Rattle.std.proofs.Common.{◌≡◌, take}
use Rattle.cnf_core.specs.Trails.{numbers}
use Rattle.cnf_core.specs.TrailViews.{room, trues}
use Rattle.proof_check.proofs.subsumption.make_true.Given as goal

abbrev pub invariant-loop-lit : goal.invariant-loop-lit
invariant-loop-lit l = record {
  made : trues l.trail ≡ numbers (take l.lit-index l.lit-items);
  same_room : room l.trail ≡ room l.fn.trail;
}
