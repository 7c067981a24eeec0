use Rattle.std.proofs.Common.{rules, subst}
use Rattle.std.specs.List.{All}
use Rattle.std.proofs.lemmas.List.{take_all}
use Rattle.std.proofs.lemmas.List.Elements.{All-more}
use Rattle.cnf_core.specs.Clauses.{literals}
use Rattle.cnf_core.specs.Literals.{Names}
use Rattle.cnf_core.specs.declared.clauses.Clause.{Clause}
use Rattle.solver_tests.proofs.reading.is_well_named.Goals as goal

pub loop-clause-preserved : goal.loop-clause-preserved
loop-clause-preserved c =
    let holds : Clause → Type 0 = λ x. All (Names c.args.cnf.now.vars) (literals x) in
    let here : holds c.clause-item.result = search rules in
    All-more holds c.items-clause-items.result.now c.loop-clause.clause-index c.clause-item.result c.loop-clause-test.true c.loop-clause.invariant
    (subst holds c.clause-item.is here)

pub returns : goal.returns
returns c = λ few.
    let holds : Clause → Type 0 = λ x. All (Names c.args.cnf.now.vars) (literals x) in (
      search rules,
      subst (All holds) c.items-clause-items.ensures
          (subst (All holds) (take_all c.loop-clause.clause-index c.items-clause-items.result.now c.loop-clause-test.false) c.loop-clause.invariant),
    )
