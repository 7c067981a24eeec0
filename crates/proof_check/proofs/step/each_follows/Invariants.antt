use Rattle.std.proofs.Common.{◌≡◌, ◌<◌, ℕ, []}
use Rattle.cnf_core.specs.Deriving.{Derived}
use Rattle.cnf_core.specs.TrailViews.{room, trues}
use Rattle.proof_check.proofs.step.each_follows.Given as goal

abbrev pub invariant-loop-index : goal.invariant-loop-index
invariant-loop-index l = record {
  empty : trues l.trail ≡ [];
  same_room : room l.trail ≡ l.cnf.vars;
  derived : (k : ℕ) → k < l.index → Derived l.cnf l.steps k;
}
