use Rattle.std.proofs.Common.{◌∙◌}
use Rattle.cnf_core.specs.TrailViews.{trues}
use Rattle.cdcl.specs.States.{clauses_of}
use Rattle.cdcl.proofs.Looking.{watched-decide}
use Rattle.cdcl.proofs.Trailing.{reasoned-begun}
use Rattle.cdcl.proofs.search.Search.decide.Goals as goal

pub returns-clause-sound : goal.returns-clause-sound
returns-clause-sound c =
    let s = c.args.self.now in
    record {
      same_room = c.push-2.ensures.room ∙ c.requires.sound.same_room;
      derived = c.requires.sound.derived;
      new = c.requires.sound.new;
      reasoned = reasoned-begun (clauses_of c.args.cnf.now s) (trues s.trail) (trues c.push-2.new.self) c.args.lit.number s.reasons.items c.push-3.new.self.items s.starts.items c.push.new.self.items c.len.result
          c.requires.sound.reasoned c.requires.closed c.in_ok-push-2.ensures.trues c.in_ok-push-3.ensures.items c.in_ok-push.ensures.items c.len.ensures;
    }

pub returns-clause-ready : goal.returns-clause-ready
returns-clause-ready c =
    let s = c.args.self.now in
    record {
      count = c.requires.ready.count;
      watched = watched-decide c.args.cnf.now.vars (clauses_of c.args.cnf.now s) (trues s.trail) (trues c.push-2.new.self) s.propagated s.starts.items c.push.new.self.items s.watches c.args.lit.number c.len.result
          c.in_ok-push-2.ensures.trues c.in_ok-push.ensures.items c.len.ensures c.requires.propagated c.requires.ready.watched;
    }
