use Rattle.std.proofs.Common.{rules, subst}
use Rattle.std.specs.List.{All}
use Rattle.std.proofs.lemmas.List.{take_all}
use Rattle.std.proofs.lemmas.List.Elements.{All-map, All-more}
use Rattle.cnf_core.specs.Literals.{Names}
use Rattle.cnf_core.specs.declared.lit.Lit.{Lit}
use Rattle.solver_tests.proofs.reading.is_named.Goals as goal

pub loop-lit-preserved : goal.loop-lit-preserved
loop-lit-preserved c =
    let holds : Lit → Type 0 = λ x. Names c.args.vars x.number in
    let here : Names c.args.vars c.lit-item.result.number = search rules in
    All-more holds c.items-lit-items.result.now c.loop-lit.lit-index c.lit-item.result c.loop-lit-test.true c.loop-lit.invariant
    (subst holds c.lit-item.is here)

pub returns : goal.returns
returns c = λ _.
    let holds : Lit → Type 0 = λ x. Names c.args.vars x.number in
    All-map (Names c.args.vars) (λ (x : Lit). x.number) c.args.clause.now.lits (subst (All holds) c.items-lit-items.ensures
    (subst (All holds) (take_all c.loop-lit.lit-index c.items-lit-items.result.now c.loop-lit-test.false) c.loop-lit.invariant))
