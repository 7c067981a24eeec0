use Rattle.std.proofs.Common.{refl}
use Rattle.net_run.specs.Following.{FollowStops}
use Rattle.net_run.proofs.CopySteps.{told_on, visit_follows, visit_stops}
use Rattle.net_run.proofs.following.Walk.visit.Goals as goal

pub returns-in_err-visited-clause-stops : goal.returns-in_err-visited-clause-stops
returns-in_err-visited-clause-stops c =
    told_on (FollowStops c.args.net.now c.args.copy c.args.self.now) c.from_residual.result c.in_err-visited.field-0.0 c.from_residual.ensures.1
    (visit_stops c.args.net.now c.args.copy c.args.self.now c.args.switch c.args.port c.deref.result.now c.in_err-visited.field-0.0 c.requires.at c.requires.more c.deref.ensures.value
    c.in_err-visited.ensures.over)

pub returns-clause-followed : goal.returns-clause-followed
returns-clause-followed c =
    visit_follows c.args.net.now c.args.copy c.args.self.now _ c.args.switch c.args.port c.deref.result.now c.in_ok-visited.visited.departed.items c.in_ok-visited.visited.runs
    c.requires.at c.requires.more c.deref.ensures.value c.requires.can c.in_ok-visited.ensures.departed c.in_ok-visited.ensures.runs c.in_ok-visited.ensures.within
    c.in_ok-visited.ensures.fewer c.in_ok-visited.ensures.fit refl refl refl c.in_ok-none.ensures.ends c.in_ok-none.ensures.runs c.in_ok-none.ensures.length
