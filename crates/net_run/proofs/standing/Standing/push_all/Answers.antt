use Rattle.std.proofs.Common.{◌-◌, arith, ◌∙◌}
use Rattle.net_run.specs.Nets.{net_in}
use Rattle.net_run.specs.Ends.{ends_from, followed}
use Rattle.net_run.specs.RunCounts.{runs_from}
use Rattle.net_run.specs.UnderWay.{stack_ends, stack_runs}
use Rattle.net_run.proofs.UnderWay.{one_less_ends, one_less_runs}
use Rattle.net_run.proofs.standing.Standing.push_all.Goals as goal

pub loop-last-preserved : goal.loop-last-preserved
loop-last-preserved c =
    let net = net_in c.args.net.now in
    let n = c.args.self.now.visits - 1 in
    let before = c.loop-last in
    let rest = c.pop.new.self.items in
    let stack = c.push_next.new.stack.items in
    record {
      ends = one_less_ends (followed net (ends_from net n) c.args.switch) c.args.self.now.choices.items before.left.items rest c.in-Some.last (stack_ends net before.stack.items) (stack_ends net stack)
          c.in-Some.ensures.items c.in_ok-push_next.ensures.ends ∙ before.invariant.ends;
      runs = one_less_runs net (runs_from net n) c.args.switch before.left.items rest c.in-Some.last (stack_runs net before.stack.items) (stack_runs net stack)
          c.in-Some.ensures.items c.in_ok-push_next.ensures.runs ∙ before.invariant.runs;
      room = let a = c.in_ok-push_next.ensures.length in let b = c.in-Some.ensures.len in let r = before.invariant.room in omega (arith, a, b, r);
    }
