use Rattle.std.proofs.Common.{arith, map, subst, take}
use Rattle.cnf_core.specs.Clauses.{literals}
use Rattle.cnf_core.specs.Literals.{index_of}
use Rattle.proof_check.specs.Subsuming.{AllFilled}
use Rattle.proof_check.specs.Registering.{Registers, tops_of}
use Rattle.proof_check.proofs.Subsumed.{clause-named, filled-more, taken-clauses, tops-more}
use Rattle.cnf_core.proofs.LiteralFacts.{index_of-below}
use Rattle.proof_check.proofs.subsumption.register.Goals as goal

pub add-requires : goal.add-requires
add-requires c =
    let named = clause-named c.args.vars c.args.clauses.now c.loop-clause.clause-index c.clause-item.result c.in-Some.top.number c.requires.named c.loop-clause-test.true c.clause-item.is c.in-Some.ensures.1 in
    omega (arith, index_of-below c.in-Some.top.number c.args.vars named.1, c.loop-clause.invariant.registered.indexed)

pub loop-clause-preserved : goal.loop-clause-preserved
loop-clause-preserved c =
    let x = c.clause-item.result in
    let cs = map literals (take c.loop-clause.clause-index c.args.clauses.now) in
    let grown = taken-clauses c.args.clauses.now c.loop-clause.clause-index x c.loop-clause-test.true c.clause-item.is in
    record {
      registered = subst (λ ds. Registers c.args.vars (tops_of ds) c.add.new.self) grown
          (subst (λ fs. Registers c.args.vars fs c.add.new.self) (tops-more cs (literals x) (index_of c.in-Some.top.number) c.in-Some.ensures.2)
          (c.in_ok-add-in-Some.ensures c.args.vars (tops_of cs) c.loop-clause.invariant.registered));
      filled = subst AllFilled grown (filled-more cs (literals x) c.loop-clause.invariant.filled c.in-Some.ensures.0);
    }
