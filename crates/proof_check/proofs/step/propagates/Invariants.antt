use Rattle.std.proofs.Common.{◌≡◌, drop}
use Rattle.std.specs.Prelude.{◌↔◌}
use Rattle.cnf_core.specs.Deriving.{Refutes}
use Rattle.cnf_core.specs.TrailViews.{room, trues}
use Rattle.proof_check.specs.KnownClauses.{clauses_of}
use Rattle.proof_check.proofs.step.propagates.Given as goal

abbrev pub invariant-loop-index : goal.invariant-loop-index
invariant-loop-index l = record {
  rest : Refutes (clauses_of l.known) (trues l.trail) (drop l.index l.hints) ↔ Refutes (clauses_of l.known) (trues l.fn.trail) l.hints;
  same_room : room l.trail ≡ room l.fn.trail;
}
