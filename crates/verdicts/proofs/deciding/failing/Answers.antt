use Rattle.std.proofs.Common.{◌≡◌, IfSome, rules, subst}
use Rattle.bv_terms.specs.Arenas.{term_at}
use Rattle.cocoon_syntax.specs.TreeOf.{design_of}
use Rattle.failure_reading.specs.OfObligation.{AreShort, begin_of, FailsIn}
use Rattle.failures.specs.Found.{BeginsAt, FailureFits}
use Rattle.bv_terms.specs.Values.{values_of}
use Rattle.verdicts.proofs.True.{Laws, is_found, others_by, says_it_fails, true_by}
use Rattle.verdicts.proofs.deciding.failing.Goals as goal

pub failure-requires-clause-owed : goal.failure-requires-clause-owed
failure-requires-clause-owed c = (c.args.terms.now, c.requires.owed)

pub failure-requires-clause-defs : goal.failure-requires-clause-defs
failure-requires-clause-defs c = c.requires.defs

pub unreachable-requires : goal.unreachable-requires
unreachable-requires c =
    let d = design_of c.args.checked.now in
    let o = c.args.obligation.now in
    let nodes = c.args.terms.now in
    let t = term_at nodes o.formula in
    let tables = c.args.witness.defs in
    let xs = c.items.result.now in
    let vs = c.items-2.result.now in
    let same : xs ≡ c.args.witness.inputs = search rules in
    let alike : vs ≡ c.args.witness.values = search rules in
    let ins = values_of xs vs in
    let read = c.know_reading.ensures.read in
    let keeps = c.design-design.ensures.resolves.rules in
    let literals = c.code_literals_fit.ensures.designs c.args.checked.now in
    let laws : Laws d tables o ins = record {
      fits = c.true_formulas_are_failures.ensures.fits d read keeps literals tables o ins;
      short = c.true_formulas_are_failures.ensures.short d read keeps literals tables o ins;
      fails = c.true_formulas_are_failures.ensures.fails d read keeps literals tables o ins;
      found = c.true_formulas_are_failures.ensures.found d read keeps literals tables o ins;
      computed = c.segments_are_hops.ensures.computed;
    } in
    is_found d tables o nodes ins laws c.count-count.ensures.arena (true_by tables t xs c.args.witness.inputs vs c.args.witness.values same alike c.requires.true_)
    (others_by t xs c.args.witness.inputs vs c.args.witness.values same alike c.requires.others) c.requires.defs c.requires.owed
    (c.in_ok-failed.ensures.none c.in-None.is)

pub returns : goal.returns
returns c =
    let d = design_of c.args.checked.now in
    let o = c.args.obligation.now in
    let nodes = c.args.terms.now in
    let t = term_at nodes o.formula in
    let tables = c.args.witness.defs in
    let xs = c.items.result.now in
    let vs = c.items-2.result.now in
    let same : xs ≡ c.args.witness.inputs = search rules in
    let alike : vs ≡ c.args.witness.values = search rules in
    let ins = values_of xs vs in
    let read = c.know_reading.ensures.read in
    let keeps = c.design-design.ensures.resolves.rules in
    let literals = c.code_literals_fit.ensures.designs c.args.checked.now in
    let laws : Laws d tables o ins = record {
      fits = c.true_formulas_are_failures.ensures.fits d read keeps literals tables o ins;
      short = c.true_formulas_are_failures.ensures.short d read keeps literals tables o ins;
      fails = c.true_formulas_are_failures.ensures.fails d read keeps literals tables o ins;
      found = c.true_formulas_are_failures.ensures.found d read keeps literals tables o ins;
      computed = c.segments_are_hops.ensures.computed;
    } in
    says_it_fails d tables o nodes ins laws c.count-count.ensures.arena (true_by tables t xs c.args.witness.inputs vs c.args.witness.values same alike c.requires.true_)
    (others_by t xs c.args.witness.inputs vs c.args.witness.values same alike c.requires.others) c.requires.defs
    c.in-Some.failure (subst (λ x. IfSome x (FailsIn d o)) c.in-Some.is c.in_ok-failed.ensures.fails)
    (subst (λ x. IfSome x (FailureFits o.level d)) c.in-Some.is c.in_ok-failed.ensures.fits)
    (subst (λ x. IfSome x (λ f. AreShort (begin_of ins o) → BeginsAt tables (begin_of ins o) f)) c.in-Some.is c.in_ok-failed.ensures.begins) c.verdict_on.result c.verdict_on.ensures
