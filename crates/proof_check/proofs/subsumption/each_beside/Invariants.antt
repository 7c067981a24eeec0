use Rattle.std.proofs.Common.{◌≡◌, ◌<◌, ℕ, [], take}
use Rattle.cnf_core.specs.Deriving.{known}
use Rattle.cnf_core.specs.Licensing.{BringsNew}
use Rattle.cnf_core.specs.TrailViews.{room, trues}
use Rattle.proof_check.specs.Subsuming.{AllFilled}
use Rattle.proof_check.specs.Registering.{Registers, tops_of}
use Rattle.proof_check.proofs.subsumption.each_beside.Given as goal

abbrev pub invariant-loop-index : goal.invariant-loop-index
invariant-loop-index l = record {
  empty : trues l.trail ≡ [];
  same_room : room l.trail ≡ l.cnf.vars;
  registered : Registers l.cnf.vars (tops_of (known l.cnf (take l.index l.steps))) l.chains;
  filled : AllFilled (known l.cnf (take l.index l.steps));
  new : (k : ℕ) → k < l.index → BringsNew l.cnf l.steps k;
}
