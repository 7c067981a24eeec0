use Rattle.std.proofs.Common.{arith, length, rules, subst, ◌<◌, ◌≤◌}
use Rattle.std.specs.Bool.{IsTrue}
use Rattle.std.specs.List.{All}
use Rattle.std.proofs.lemmas.List.{take_all}
use Rattle.std.proofs.lemmas.List.Elements.{All-more}
use Rattle.bv_terms.specs.Arenas.{width_at}
use Rattle.obligation_tests.proofs.building.are_arguments.Goals as goal

pub loop-arg-preserved : goal.loop-arg-preserved
loop-arg-preserved c =
    let nodes = c.args.terms.now in
    let args = c.args.args.now in
    let yes : IsTrue c.is_argument.result = search rules in
    record {
      there = All-more (λ a. a < length nodes) args c.loop-arg.arg-index 0 c.loop-arg-test.true c.loop-arg.invariant.there (c.is_argument.ensures.there yes);
      narrow = All-more (λ a. width_at nodes a ≤ 64) args c.loop-arg.arg-index 0 c.loop-arg-test.true c.loop-arg.invariant.narrow (c.is_argument.ensures.narrow yes);
    }

pub returns-clause-there : goal.returns-clause-there
returns-clause-there c = λ t.
    let args = c.args.args.now in
    let done : length args ≤ c.loop-arg.arg-index = (let more = c.loop-arg-test.false in omega (arith, more)) in
    subst (All (λ a. a < length c.args.terms.now)) (take_all c.loop-arg.arg-index args done) c.loop-arg.invariant.there

pub returns-clause-narrow : goal.returns-clause-narrow
returns-clause-narrow c = λ t.
    let args = c.args.args.now in
    let done : length args ≤ c.loop-arg.arg-index = (let more = c.loop-arg-test.false in omega (arith, more)) in
    subst (All (λ a. width_at c.args.terms.now a ≤ 64)) (take_all c.loop-arg.arg-index args done) c.loop-arg.invariant.narrow
