use Rattle.std.proofs.Common.{◌≡◌, ◌+◌, ◌-◌, ◌<◌, ◌∙◌, ◌++◌, ◌∷◌, [], ap, arith, inl, inr, length, subst, sym}
use Rattle.cnf_core.specs.TrailViews.{trues}
use Rattle.cdcl.specs.Marks.{Shows, count_from}
use Rattle.cdcl.specs.Resolving.{Analyzed}
use Rattle.cdcl.specs.States.{clauses_of}
use Rattle.cdcl.proofs.Conflicts.{conflict-counts, shows-conflict}
use Rattle.cdcl.proofs.Counting.{count-below}
use Rattle.cdcl.proofs.learning.analyze.Goals as goal

pub loop-analysis-init : goal.loop-analysis-init
loop-analysis-init c =
    let s = c.args.search.now in
    let ts = trues s.trail in
    let cs = clauses_of c.args.cnf.now s in
    let fresh = c.in_ok-analysis.ensures in
    let old = c.in_ok-analysis.analysis in
    let new = c.add_antecedent.new.analysis in
    let m = c.in_ok-add_antecedent.ensures in
    let f = c.requires.conflict in
    let marks = m.marks f.0 f.1 in
    let len = c.len-top.ensures in
    let sized : length new.marks.items ≡ length ts = marks.sized ∙ fresh.sized ∙ c.len.ensures in
    let counted : new.count ≡ count_from c.args.floor new.marks.items = new.counted ∙ ap (λ n. count_from n new.marks.items) (m.same_floor ∙ fresh.at_floor) in
    record {
      within = omega (arith, len);
      analyzed = record {
        sized = sized;
        below = λ q lt on. omega (arith, lt, len);
        shows = subst (λ top. Shows cs ts new.marks.items top new.hints.items) (sym len)
            (subst (Shows cs ts new.marks.items (length ts)) (sym (m.noted ∙ ap (λ hs. hs ++ c.args.conflict ∷ []) fresh.no_hints))
            (shows-conflict cs ts c.args.conflict f.0 old.marks.items new.marks.items f.1 f.2 marks));
      };
      at_floor = m.same_floor ∙ fresh.at_floor;
      enough = elim c.requires.level [
        | inl none ↦ omega (arith, none)
        | inr last ↦ omega (arith, last.0, counted, conflict-counts cs ts c.args.floor c.args.conflict f.0 old.marks.items new.marks.items f.1 f.2 marks sized last.1)
      ];
    }

pub overflow_sub-top : goal.overflow_sub-top
overflow_sub-top c =
    let a = c.loop-analysis.analysis in
    let h = c.loop-analysis.invariant.analyzed in
    omega (arith, c.loop-analysis-test.true, a.counted, count-below a.floor a.marks.items (length (trues c.args.search.now.trail)) c.loop-analysis.top h.sized h.below)

pub resolve-requires-clause-last : goal.resolve-requires-clause-last
resolve-requires-clause-last c =
    let a = c.loop-analysis.analysis in
    let h = c.loop-analysis.invariant.analyzed in
    omega (arith, c.loop-analysis-test.true, a.counted, count-below a.floor a.marks.items (length (trues c.args.search.now.trail)) c.loop-analysis.top h.sized h.below)

pub resolve-requires-clause-forced : goal.resolve-requires-clause-forced
resolve-requires-clause-forced c =
    let a = c.loop-analysis.analysis in
    let h = c.loop-analysis.invariant.analyzed in
    let below = count-below a.floor a.marks.items (length (trues c.args.search.now.trail)) c.loop-analysis.top h.sized h.below in
    let p = c.loop-analysis.top - 1 in
    let within : p < length (trues c.args.search.now.trail) = omega (arith, c.loop-analysis-test.true, a.counted, below, c.loop-analysis.invariant.within) in
    c.requires.sound.reasoned.forced p within
    (c.requires.forced p (omega (arith, c.loop-analysis-test.true, a.counted, below, c.loop-analysis.invariant.at_floor)) within)

pub resolve-requires-clause-before : goal.resolve-requires-clause-before
resolve-requires-clause-before c =
    let a = c.loop-analysis.analysis in
    let h = c.loop-analysis.invariant.analyzed in
    let whole : c.loop-analysis.top ≡ c.loop-analysis.top - 1 + 1 = omega (arith, c.loop-analysis-test.true, a.counted, count-below a.floor a.marks.items (length (trues c.args.search.now.trail)) c.loop-analysis.top h.sized h.below) in
    subst (λ top. Analyzed (clauses_of c.args.cnf.now c.args.search.now) (trues c.args.search.now.trail) top a) whole h

pub loop-analysis-smaller : goal.loop-analysis-smaller
loop-analysis-smaller c =
    let a = c.loop-analysis.analysis in
    let h = c.loop-analysis.invariant.analyzed in
    omega (arith, c.loop-analysis-test.true, a.counted, count-below a.floor a.marks.items (length (trues c.args.search.now.trail)) c.loop-analysis.top h.sized h.below)

pub loop-analysis-preserved : goal.loop-analysis-preserved
loop-analysis-preserved c = record {
  within = omega (arith, c.loop-analysis.invariant.within);
  analyzed = c.in_ok-resolve.ensures.after;
  at_floor = c.in_ok-resolve.ensures.floor ∙ c.loop-analysis.invariant.at_floor;
  enough = omega (arith, c.in_ok-resolve.ensures.count, c.loop-analysis-test.true);
}

pub returns : goal.returns
returns c = record {
  at_floor = c.loop-analysis.invariant.at_floor;
  exact = omega (arith, c.loop-analysis.invariant.enough, c.loop-analysis-test.false);
  analyzed = (c.loop-analysis.top, c.loop-analysis.invariant.analyzed);
}
