use Rattle.std.proofs.Common.{rules, IsTrue, refl, subst}
use Rattle.std.specs.List.{All}
use Rattle.std.proofs.lemmas.List.{take_all}
use Rattle.std.proofs.lemmas.List.Elements.{All-more}
use Rattle.cnf_core.specs.Satisfying.{satisfies_clause}
use Rattle.cnf_core.specs.declared.clauses.Clause.{Clause}
use Rattle.cnf_core.proofs.clauses.satisfies.Goals as goal

pub loop-clause-preserved : goal.loop-clause-preserved
loop-clause-preserved c =
    let holds : Clause → Type 0 = λ x. IsTrue (satisfies_clause c.args.assignment.now x) in
    let here : IsTrue (satisfies_clause c.args.assignment.now c.clause-item.result) = search rules in
    All-more holds c.items-clause-items.result.now c.loop-clause.clause-index c.clause-item.result c.loop-clause-test.true c.loop-clause.invariant
    (subst holds c.clause-item.is here)

pub returns : goal.returns
returns c =
    let holds : Clause → Type 0 = λ x. IsTrue (satisfies_clause c.args.assignment.now x) in (
      λ _. subst (All holds) c.items-clause-items.ensures
          (subst (All holds) (take_all c.loop-clause.clause-index c.items-clause-items.result.now c.loop-clause-test.false) c.loop-clause.invariant),
      λ _. refl,
    )
