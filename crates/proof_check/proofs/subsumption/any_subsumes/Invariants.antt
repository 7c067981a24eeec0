use Rattle.std.proofs.Common.{◌<◌, ℕ}
use Rattle.cnf_core.specs.Literals.{index_of}
use Rattle.cnf_core.specs.Trails.{literal_at, numbers}
use Rattle.cnf_core.specs.TrailViews.{trues}
use Rattle.std.specs.Prelude.{false}
use Rattle.proof_check.specs.Subsuming.{SubsumesFrom}
use Rattle.proof_check.specs.KnownClauses.{clauses_of}
use Rattle.proof_check.proofs.subsumption.any_subsumes.Given as goal

abbrev pub invariant-loop-lit : goal.invariant-loop-lit
invariant-loop-lit l = (p : ℕ) → p < l.lit-index → SubsumesFrom (clauses_of l.known) (trues l.trail) (index_of (literal_at (numbers l.lit-items) p)) false
