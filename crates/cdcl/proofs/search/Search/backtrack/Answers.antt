use Rattle.std.proofs.Common.{◌≡◌, ◌∙◌, ap, get_or, refl, sym, take}
use Rattle.std.proofs.lemmas.List.{get_or_read}
use Rattle.cnf_core.specs.TrailViews.{trues}
use Rattle.cdcl.specs.States.{clauses_of}
use Rattle.cdcl.proofs.Jumping.{cut-within, reasoned-cut, start-before}
use Rattle.cdcl.proofs.Looking.{watched-back}
use Rattle.cdcl.proofs.search.Search.backtrack.Goals as goal

pub returns-clause-sound : goal.returns-clause-sound
returns-clause-sound c =
    let s = c.args.self.now in
    let sound = c.requires.sound in
    let level = c.args.level in
    let cut = c.index-cut.result.now in
    let start : get_or s.starts.items level 0 ≡ cut = sym (get_or_read s.starts.items level cut c.requires.within c.index-cut.ensures 0) in
    record {
      same_room = c.truncate.ensures.room ∙ sound.same_room;
      derived = sound.derived;
      new = sound.new;
      reasoned = reasoned-cut (clauses_of c.args.cnf.now s) (trues s.trail) (trues c.truncate.new.self) s.reasons.items c.truncate-2.new.self.items s.starts.items c.truncate-3.new.self.items
          level cut sound.reasoned c.requires.within start c.truncate.ensures.trues c.truncate-2.ensures.items c.truncate-3.ensures.items;
    }

pub returns-clause-ready : goal.returns-clause-ready
returns-clause-ready c =
    let s = c.args.self.now in
    let ts = trues s.trail in
    let cs = clauses_of c.args.cnf.now s in
    let level = c.args.level in
    let cut = c.index-cut.result.now in
    let h = c.requires.sound.reasoned in
    let start : get_or s.starts.items level 0 ≡ cut = sym (get_or_read s.starts.items level cut c.requires.within c.index-cut.ensures 0) in
    record {
      count = c.requires.ready.count;
      watched = watched-back c.args.cnf.now.vars cs ts (trues c.truncate.new.self) s.propagated cut level s.starts.items c.truncate-3.new.self.items s.watches c.requires.within start
          (cut-within cs ts s.reasons.items s.starts.items h level cut c.requires.within start) (start-before cs ts s.reasons.items s.starts.items h level cut c.requires.within start)
          c.truncate.ensures.trues c.truncate-3.ensures.items c.requires.ready.watched;
    }

pub returns-clause-back : goal.returns-clause-back
returns-clause-back c =
    let s = c.args.self.now in
    let cut = c.index-cut.result.now in
    let start : get_or s.starts.items c.args.level 0 ≡ cut = sym (get_or_read s.starts.items c.args.level cut c.requires.within c.index-cut.ensures 0) in
    record {
      steps = refl;
      trues = c.truncate.ensures.trues ∙ ap (λ n. take n (trues s.trail)) (sym start);
      starts = c.truncate-3.ensures.items;
    }
