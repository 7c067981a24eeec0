use Rattle.std.proofs.Common.{◌+◌, ◌∙◌, arith, subst, sym, take}
use Rattle.std.specs.List.{All}
use Rattle.cnf_core.specs.Literals.{Names}
use Rattle.cnf_core.specs.Trails.{numbers}
use Rattle.cnf_core.specs.TrailViews.{room, trues}
use Rattle.cdcl.proofs.Counting.{marks-more}
use Rattle.cnf_core.proofs.LiteralFacts.{named-item, taken-numbers}
use Rattle.cdcl.proofs.analysis.Analysis.mark_clause.Goals as goal

pub mark_false-requires-clause-named : goal.mark_false-requires-clause-named
mark_false-requires-clause-named c = named-item (room c.args.trail.now) c.items-lit-items.result.now c.loop-lit.lit-index c.lit-item.result
    (subst (λ ls. All (Names (room c.args.trail.now)) (numbers ls)) (sym c.items-lit-items.ensures) c.requires.named) c.loop-lit-test.true c.lit-item.is

pub loop-lit-preserved : goal.loop-lit-preserved
loop-lit-preserved c =
    let i = c.loop-lit.lit-index in
    let lits = c.items-lit-items.result.now in
    record {
      marks = marks-more (trues c.args.trail.now) (numbers (take i lits)) c.lit-item.result.number c.args.self.now.marks.items c.loop-lit.self.marks.items c.mark_false.new.self.marks.items
          (numbers (take (i + 1) lits)) c.loop-lit.invariant.marks c.mark_false.ensures.marks (taken-numbers lits i c.lit-item.result c.loop-lit-test.true c.lit-item.is);
      same = record {
        same_floor = c.mark_false.ensures.same.same_floor ∙ c.loop-lit.invariant.same.same_floor;
        same_hints = c.mark_false.ensures.same.same_hints ∙ c.loop-lit.invariant.same.same_hints;
      };
      more = omega (arith, c.mark_false.ensures.more, c.loop-lit.invariant.more);
    }
