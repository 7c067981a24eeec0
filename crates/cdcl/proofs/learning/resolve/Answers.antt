use Rattle.std.proofs.Common.{◌≡◌, ◌∙◌, ap, arith, false, length, subst, sym, ◌<◌, ◌++◌, ◌∷◌, [], Some}
use Rattle.std.proofs.Math.ListN.{length-set}
use Rattle.std.proofs.lemmas.Option.{none-some, same_Some}
use Rattle.std.proofs.lemmas.Result.{on_ok_weaker}
use Rattle.cnf_core.specs.TrailViews.{room, trues}
use Rattle.cdcl.specs.Marks.{Shows}
use Rattle.cdcl.specs.Searching.{IsForcedBy}
use Rattle.cdcl.specs.States.{clauses_of}
use Rattle.cdcl.proofs.Conflicts.{below-reason, below-skip, shows-reason, shows-skip}
use Rattle.cdcl.proofs.learning.resolve.Goals as goal

pub reason-requires : goal.reason-requires
reason-requires c = omega (arith, c.requires.within, c.requires.sound.reasoned.sized)

pub returns-in-Some-clause-after : goal.returns-in-Some-clause-after
returns-in-Some-clause-after c =
    let s = c.args.search.now in
    let ts = trues s.trail in
    let cs = clauses_of c.args.cnf.now s in
    let p = c.args.place in
    let n = c.in-Some.number in
    let old = c.args.analysis.now in
    let unmarked = c.unmark.new.self.marks.items in
    let new = c.add_antecedent.new.analysis in
    let before = c.requires.before in
    let within : p < length old.marks.items = omega (arith, c.requires.within, before.sized) in
    let why = c.requires.forced in
    let number : why.0 ≡ n = same_Some why.0 n (same_Some (Some why.0) c.reason.result (sym why.1 ∙ c.reason.ensures) ∙ c.in-Some.is) in
    let f = subst (IsForcedBy cs ts p) number why.2 in
    on_ok_weaker c.add_antecedent.result (λ m.
    let marks = m.marks f.0 f.1 in
    record {
      sized = marks.sized ∙ ap length c.unmark.ensures.marks ∙ length-set old.marks.items p false ∙ before.sized;
      below = below-reason cs ts s.trail.apart (room s.trail) s.trail.named p n old.marks.items unmarked new.marks.items c.requires.within within c.unmark.ensures.marks f marks before.below;
      shows = subst (Shows cs ts new.marks.items p) (sym (m.noted ∙ ap (λ hs. hs ++ n ∷ []) c.unmark.ensures.same.same_hints))
          (shows-reason cs ts s.trail.apart (room s.trail) s.trail.named p n old.hints.items old.marks.items unmarked new.marks.items c.requires.within within f c.unmark.ensures.marks f marks before.shows);
    }) c.add_antecedent.ensures

pub returns-in-None-clause-after : goal.returns-in-None-clause-after
returns-in-None-clause-after c =
    let why = c.requires.forced in
    absurd (none-some why.0 (sym c.in-None.is ∙ sym (same_Some (Some why.0) c.reason.result (sym why.1 ∙ c.reason.ensures))))

pub returns-then-not-is_marked-clause-after : goal.returns-then-not-is_marked-clause-after
returns-then-not-is_marked-clause-after c =
    let cs = clauses_of c.args.cnf.now c.args.search.now in
    let ts = trues c.args.search.now.trail in
    let marks = c.args.analysis.now.marks.items in
    let before = c.requires.before in
    record {
      sized = before.sized;
      below = below-skip cs ts c.args.place marks (sym c.is_marked.ensures ∙ c.if-not-is_marked.true) before.below;
      shows = shows-skip cs ts c.args.place c.args.analysis.now.hints.items marks before.shows;
    }
