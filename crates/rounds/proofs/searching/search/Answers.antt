use Rattle.std.proofs.Common.{◌≡◌, length, sym, ap, subst, arith}
use Rattle.bv_terms.specs.Arenas.{term_at}
use Rattle.query_laws.specs.Rounds.{Progress}
use Rattle.cocoon_syntax.specs.TreeOf.{design_of}
use Rattle.rounds.specs.Steps.{CanBeTrue, ComesTo}
use Rattle.rounds.proofs.Rounds.{longer, one_more, spent_rounds, still_within}
use Rattle.rounds.proofs.searching.search.Goals as goal

pub loop-init : goal.loop-init
loop-init c =
    let d = design_of c.args.checked.now in
    let formula = term_at c.args.terms.now c.args.formula in
    let none = c.new-instances.ensures.items in
    record {
      count = ap length none;
      progress = subst (Progress d c.args.level formula) (sym none) (c.broken_instances_keep_progress.ensures.none d c.args.level formula);
    }

pub next_round-requires-clause-within : goal.next_round-requires-clause-within
next_round-requires-clause-within c =
    let d = design_of c.args.checked.now in
    let formula = term_at c.args.terms.now c.args.formula in
    let so_far = c.loop.invariant in
    still_within d c.args.level formula c.args.budget.now.rounds c.loop.instances.items c.loop.counter so_far.count c.loop.auto.counter-end so_far.progress

pub loop-preserved : goal.loop-preserved
loop-preserved c =
    let d = design_of c.args.checked.now in
    let formula = term_at c.args.terms.now c.args.formula in
    let given = c.loop.instances.items in
    let is = c.in-Broken.so_far.items in
    let pushed = c.push.new.self.items in
    let h = subst (ComesTo d c.args.level formula c.args.budget.now.conflicts c.args.budget.now.rounds given) c.in-Broken.is c.in_ok-outcome.ensures in
    let e = c.in_ok-push-in-Broken.ensures.items in
    record {
      count = longer d c.args.level formula given is pushed c.in-Broken.instance c.loop.counter h.same e c.loop.invariant.count;
      progress = one_more d c.args.level formula given is pushed c.in-Broken.instance h e;
    }

pub one_round-requires-clause-within : goal.one_round-requires-clause-within
one_round-requires-clause-within c =
    let d = design_of c.args.checked.now in
    let formula = term_at c.args.terms.now c.args.formula in
    let so_far = c.loop.invariant in
    still_within d c.args.level formula c.args.budget.now.rounds c.loop.instances.items c.loop.counter so_far.count c.loop.auto.counter-end so_far.progress

pub returns : goal.returns
returns c =
    let d = design_of c.args.checked.now in
    let formula = term_at c.args.terms.now c.args.formula in
    let given = c.loop.instances.items in
    let rounds = c.args.budget.now.rounds in
    let h = subst (ComesTo d c.args.level formula c.args.budget.now.conflicts rounds given) c.in-Broken-2.is c.in_ok-outcome-2.ensures.comes in
    let satisfiable = subst (CanBeTrue d c.args.level formula given) c.in-Broken-2.is c.in_ok-outcome-2.ensures.satisfiable in
    let all : length given ≡ rounds = (
    let count = c.loop.invariant.count in
    let no = c.loop-test.false in
    let end = c.loop.auto.counter-end in
    omega (arith, count, no, end)
    ) in
    spent_rounds d c.args.level formula given c.in-Broken-2.instances.items c.from.result c.in-Broken-2.field-1 rounds all c.loop.invariant.progress h satisfiable c.from.ensures
