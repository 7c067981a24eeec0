use Rattle.std.proofs.Common.{◌≡◌, drop}
use Rattle.cnf_core.specs.Trails.{numbers}
use Rattle.proof_check.specs.Registering.{top_of}
use Rattle.proof_check.proofs.subsumption.highest.Given as goal

abbrev pub invariant-loop-lit : goal.invariant-loop-lit
invariant-loop-lit l = top_of l.top.number (numbers (drop l.lit-index l.lits)) ≡ top_of l.fn.first.number (numbers l.lits)
