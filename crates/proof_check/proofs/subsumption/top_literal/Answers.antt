use Rattle.std.proofs.Common.{ap, sym}
use Rattle.cnf_core.specs.Clauses.{literals}
use Rattle.cnf_core.specs.Trails.{numbers}
use Rattle.proof_check.proofs.Subsumed.{top-some}
use Rattle.proof_check.proofs.subsumption.top_literal.Goals as goal

pub returns-in-Some : goal.returns-in-Some
returns-in-Some c = top-some c.items-lits.result.now c.in-Some.first.now (literals c.args.clause.now) c.highest.result.number (sym c.in-Some.ensures.value) (ap numbers (sym c.items-lits.ensures))
    c.highest.ensures
