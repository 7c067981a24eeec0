use Rattle.std.proofs.Common.{◌<◌, ◌≤◌, length, map, ap, ◌∙◌, arith}
use Rattle.lowering_correct.specs.Groups.{before_last}
use Rattle.lower_rows.specs.Grouping.{keys_of, no_members, said_true}
use Rattle.lower_rows.proofs.Filling.{sets-begin, sets-more}
use Rattle.lower_rows.proofs.table_groups.fill_sets.Goals as goal

pub loop-at-init : goal.loop-at-init
loop-at-init c = record {
  within = omega arith;
  filled = λ ns h d.
      c.in_ok-sets.ensures ∙ ap (map no_members) c.deref.ensures.value ∙ sets-begin (said_true c.args.first.now) c.args.args.now.lists.items c.args.rows.now ns h.lists;
}

pub loop-at-preserved : goal.loop-at-preserved
loop-at-preserved c =
    let more : 0 < c.loop-at.at = c.loop-at-test.true in
    let l : c.loop-at.at ≤ length c.args.rows.now = c.loop-at.invariant.within in
    record {
      within = omega arith;
      filled = λ ns h d.
          sets-more (said_true c.args.first.now) c.args.rows.now c.loop-at.at c.index-rows-at.result ns _ (keys_of c.loop-at.sets.items) (keys_of c.add_choice.new.sets.items)
          more l c.index-rows-at.is d (h.numbers (before_last c.index-rows-at.result.values)) (c.loop-at.invariant.filled ns h d) c.in_ok-add_choice.ensures;
    }
