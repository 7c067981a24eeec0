use Rattle.std.proofs.Common.{◌++◌, map, sym, subst, ◌+◌}
use Rattle.expr_terms.specs.Variables.{MakesAll}
use Rattle.obligation_laws.specs.Formulas.{read_back}
use Rattle.obligation_gen.proofs.PushedBack.{Pushed, all_taken, one_pushed}
use Rattle.obligation_gen.proofs.standing.push_read_back.Goals as goal

pub loop-choice-preserved : goal.loop-choice-preserved
loop-choice-preserved c =
    subst (λ xs. Pushed c.args.terms.now c.read_back.new.terms c.args.choices.now c.args.old.now c.args.end.now c.args.into.now.items xs (c.loop-choice.choice-index + 1)) (sym c.in_ok-push.ensures.items)
    (one_pushed c.args.terms.now c.loop-choice.terms c.read_back.new.terms c.args.choices.now c.args.old.now c.args.end.now c.args.into.now.items c.loop-choice.into.items c.loop-choice.choice-index c.in_ok-term.term
    c.loop-choice.invariant c.loop-choice-test.true c.in_ok-term.ensures.kept c.in_ok-term.ensures.made)

pub returns-clause-made : goal.returns-clause-made
returns-clause-made c = λ d is o e ts h s t m.
    subst (λ xs. MakesAll c.loop-choice.terms c.loop-choice.into.items (ts ++ map (read_back o e) xs)) (all_taken c.args.terms.now c.args.choices.now is h c.loop-choice.choice-index c.loop-choice-test.false)
    (c.loop-choice.invariant.made d is o e ts h s t m)
