use Rattle.std.proofs.Common.{map, rules, subst, sym}
use Rattle.net_run.specs.Nets.{net_in}
use Rattle.net_run.specs.Delivering.{delivery_of, RunStops}
use Rattle.net_run.specs.Outcomes.{AreDelivered}
use Rattle.net_run.proofs.CopySteps.{follow_stops, next_under_way, told_on}
use Rattle.net_run.proofs.Outcomes.{all_delivered, all_travelling}
use Rattle.net_run.proofs.delivering.deliver_in.Goals as goal

pub loop-copy-preserved : goal.loop-copy-preserved
loop-copy-preserved c =
    next_under_way c.args.net.now c.args.host c.args.bytes.now c.args.hops c.loop-copy.walk c.in-Some.copy c.pop.new.self c.follow.new.self c.loop-copy.invariant c.in-Some.ensures.items
    c.in_ok-follow.ensures.followed

pub returns-in_err-follow-clause-stops : goal.returns-in_err-follow-clause-stops
returns-in_err-follow-clause-stops c =
    told_on (RunStops (net_in c.args.net.now) c.args.host c.args.bytes.now c.args.hops) c.from_residual-in_err-follow.result c.in_err-follow.field-0.0 c.from_residual-in_err-follow.ensures.1
    (follow_stops c.args.net.now c.args.host c.args.bytes.now c.args.hops c.loop-copy.walk c.in-Some.copy c.pop.new.self c.in_err-follow.field-0.0 c.loop-copy.invariant c.in-Some.ensures.items
    c.in_err-follow.ensures.stops)

pub returns-clause-delivered : goal.returns-clause-delivered
returns-clause-delivered c =
    subst (λ ds. AreDelivered (net_in c.args.net.now) c.args.host c.args.bytes.now c.args.hops (map delivery_of ds)) (sym c.from.ensures)
    (all_delivered c.args.net.now c.args.host c.args.bytes.now c.args.hops c.loop-copy.walk c.loop-copy.invariant (search rules))

pub returns-clause-travelling : goal.returns-clause-travelling
returns-clause-travelling c = all_travelling c.args.net.now c.args.host c.args.bytes.now c.args.hops c.loop-copy.walk c.loop-copy.invariant (search rules)
