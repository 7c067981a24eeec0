use Rattle.std.proofs.Common.{refl, ap, ◌∙◌, ◌++◌}
use Rattle.net_run.specs.Nets.{net_in}
use Rattle.net_run.specs.DepartedOf.{departed_of, way_of}
use Rattle.net_run.proofs.UnderWay.{next_ends, next_runs}
use Rattle.net_run.proofs.standing.Standing.push_next.Goals as goal

pub returns-clause-ends : goal.returns-clause-ends
returns-clause-ends c =
    next_ends (net_in c.args.net.now) c.args.switch _ c.args.self.now.choices.items (departed_of c.args.departed) _ c.args.stack.now.items c.push.new.self.items c.in_ok-push.ensures.items
    (c.in_ok-choices.ensures ∙ ap (λ cs. cs ++ way_of c.args.departed.member) c.deref.ensures.value) refl refl c.in-Some.ensures

pub returns-clause-runs : goal.returns-clause-runs
returns-clause-runs c =
    next_runs (net_in c.args.net.now) c.args.switch _ (departed_of c.args.departed) _ c.args.stack.now.items c.push.new.self.items c.in_ok-push.ensures.items refl refl c.in-Some.ensures
