use Rattle.cnf_core.specs.TrailViews.{trues}
use Rattle.cdcl.specs.States.{clauses_of}
use Rattle.cdcl.proofs.Trailing.{reasoned-forced}
use Rattle.cdcl.proofs.search.Search.force.Goals as goal
use Rattle.std.proofs.Common.{◌∙◌}

pub returns-clause-sound : goal.returns-clause-sound
returns-clause-sound c =
    let s = c.args.self.now in
    record {
      same_room = c.push.ensures.room ∙ c.requires.sound.same_room;
      derived = c.requires.sound.derived;
      new = c.requires.sound.new;
      reasoned = reasoned-forced (clauses_of c.args.cnf.now s) (trues s.trail) (trues c.push.new.self) c.args.lit.number s.reasons.items c.push-2.new.self.items s.starts.items c.args.number
          c.requires.sound.reasoned c.requires.forced c.in_ok-push.ensures.trues c.in_ok-push-2.ensures.items;
    }
