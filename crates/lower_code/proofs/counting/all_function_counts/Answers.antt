use Rattle.std.proofs.Common.{◌<◌, rules, subst, sym, arith}
use Rattle.lower_code.specs.Scopes.{design_in, KnowsCounts}
use Rattle.lower_code.proofs.FoundCounts.{knows_more}
use Rattle.lower_code.proofs.counting.all_function_counts.Goals as goal

pub loop-number-preserved : goal.loop-number-preserved
loop-number-preserved c =
    let d = design_in c.args.scope.now in
    let less : c.loop-number.number < c.args.scope.now.before = c.loop-number-test.true in
    record {
      within = omega arith;
      count = search rules;
      known = subst (KnowsCounts c.args.part d) (sym c.in_ok-push.ensures.items)
          (knows_more c.args.part d c.loop-number.known.items c.loop-number.number c.function_count-count.result c.loop-number.invariant.count c.loop-number.invariant.known c.function_count-count.ensures);
    }
