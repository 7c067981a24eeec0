use Rattle.std.proofs.Common.{◌≡◌, ◌<◌, ◌≤◌, ◌+◌, ℕ, [], length}
use Rattle.std.specs.Prelude.{IsFalse, slice_index, slice_index_or}
use Rattle.cnf_core.specs.Licensing.{subsumed_by}
use Rattle.cnf_core.specs.Literals.{index_of}
use Rattle.cnf_core.specs.TrailViews.{trues}
use Rattle.proof_check.specs.KnownClauses.{clauses_of}
use Rattle.proof_check.specs.Registering.{tops_of}
use Rattle.proof_check.proofs.subsumption.subsumes_from.Given as goal

abbrev pub invariant-loop-after : goal.invariant-loop-after
invariant-loop-after l = record {
  skipped : (j : ℕ) → j < length (clauses_of l.known) → slice_index (tops_of (clauses_of l.known)) j ≡ index_of l.fn.top.number → l.after ≤ j
      → IsFalse (subsumed_by (trues l.trail) (slice_index_or (clauses_of l.known) j []));
  found : (j : ℕ) → l.after ≡ j + 1 → (j < length (clauses_of l.known)) × (slice_index (tops_of (clauses_of l.known)) j ≡ index_of l.fn.top.number);
}

abbrev pub decreases-loop-after : goal.decreases-loop-after
decreases-loop-after l = l.after
