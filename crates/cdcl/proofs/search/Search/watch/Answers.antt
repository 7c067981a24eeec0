use Rattle.std.proofs.Common.{inl, inr, length, refl}
use Rattle.cnf_core.specs.TrailViews.{trues}
use Rattle.cdcl.specs.States.{clauses_of}
use Rattle.cdcl.proofs.Looking.{watched-add}
use Rattle.cdcl.proofs.Trailing.{pair-named}
use Rattle.cdcl.proofs.search.Search.watch.Goals as goal

pub add-requires-clause-first : goal.add-requires-clause-first
add-requires-clause-first c =
    let s = c.args.self.now in
    let pair = c.args.pair in
    let next = c.requires.next in
    c.requires.watched.rooms pair.first.number (pair-named c.args.cnf.now s.steps.items c.requires.named c.requires.sound.derived (length s.watches.pairs.items) next.0 next.1
    pair.first.number (next.2.inside pair.first.number pair.second.number (inl (refl, refl)))).1

pub add-requires-clause-second : goal.add-requires-clause-second
add-requires-clause-second c =
    let s = c.args.self.now in
    let pair = c.args.pair in
    let next = c.requires.next in
    c.requires.watched.rooms pair.second.number (pair-named c.args.cnf.now s.steps.items c.requires.named c.requires.sound.derived (length s.watches.pairs.items) next.0 next.1
    pair.second.number (next.2.inside pair.second.number pair.first.number (inr (refl, refl)))).1

pub returns-clause-sound : goal.returns-clause-sound
returns-clause-sound c =
    let h = c.requires.sound in
    record { same_room = h.same_room; derived = h.derived; new = h.new; reasoned = h.reasoned }

pub returns-clause-watched : goal.returns-clause-watched
returns-clause-watched c =
    let s = c.args.self.now in
    let next = c.requires.next in
    watched-add c.args.cnf.now.vars (clauses_of c.args.cnf.now s) (trues s.trail) s.propagated s.starts.items s.watches c.add.new.self c.args.pair
    c.in_ok-add.ensures.pairs c.in_ok-add.ensures.kept c.in_ok-add.ensures.listed c.add.ensures.rooms next.0 next.1 next.2 c.requires.watched

pub returns-clause-same : goal.returns-clause-same
returns-clause-same c = record { steps = refl; trues = refl; starts = refl; propagated = refl }
