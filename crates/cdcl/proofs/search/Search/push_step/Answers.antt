use Rattle.std.proofs.Common.{◌<◌, ◌∙◌, List, ap, length, subst, sym, ℕ}
use Rattle.cnf_core.specs.Clauses.{literals}
use Rattle.cnf_core.specs.Deriving.{EachDerived, known}
use Rattle.cnf_core.specs.Licensing.{BringsNew}
use Rattle.cnf_core.specs.TrailViews.{trues}
use Rattle.cnf_core.specs.declared.log.Step.{Step}
use Rattle.cdcl.specs.Searching.{IsReasoned}
use Rattle.cdcl.specs.States.{clauses_of}
use Rattle.cdcl.specs.Watching.{IsWatched}
use Rattle.cdcl.proofs.Jumping.{derived-push, known-push, new-push, reasoned-clause}
use Rattle.cdcl.proofs.Looking.{watched-clauses}
use Rattle.cdcl.proofs.search.Search.push_step.Goals as goal

pub returns-clause-sound : goal.returns-clause-sound
returns-clause-sound c =
    let s = c.args.self.now in
    let cnf = c.args.cnf.now in
    let step = c.args.step in
    let sound = c.requires.sound in
    let pushed = c.in_ok-push.ensures.items in
    let each_new : List Step → Type 0 = λ ss. (k : ℕ) → k < length ss → BringsNew cnf ss k in
    record {
      same_room = sound.same_room;
      derived = subst (EachDerived cnf) (sym pushed) (derived-push cnf s.steps.items step sound.derived c.requires.follows);
      new = subst each_new (sym pushed) (new-push cnf s.steps.items step sound.new c.requires.new);
      reasoned = subst (λ cs. IsReasoned cs (trues s.trail) s.reasons.items s.starts.items) (known-push cnf s.steps.items step ∙ ap (known cnf) (sym pushed))
          (reasoned-clause (clauses_of cnf s) (literals step.clause) (trues s.trail) s.reasons.items s.starts.items sound.reasoned c.requires.unforced);
    }

pub returns-clause-watched : goal.returns-clause-watched
returns-clause-watched c =
    let s = c.args.self.now in
    let cnf = c.args.cnf.now in
    let step = c.args.step in
    let pushed = c.in_ok-push.ensures.items in
    subst (λ cs. IsWatched cnf.vars cs (trues s.trail) s.propagated s.starts.items s.watches) (known-push cnf s.steps.items step ∙ ap (known cnf) (sym pushed))
    (watched-clauses cnf.vars (clauses_of cnf s) (literals step.clause) (trues s.trail) s.propagated s.starts.items s.watches c.requires.ready.count c.requires.ready.watched)

pub returns-clause-clauses : goal.returns-clause-clauses
returns-clause-clauses c =
    let s = c.args.self.now in
    let cnf = c.args.cnf.now in
    sym (known-push cnf s.steps.items c.args.step ∙ ap (known cnf) (sym c.in_ok-push.ensures.items))
