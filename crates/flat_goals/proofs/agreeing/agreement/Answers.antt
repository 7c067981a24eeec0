use Rattle.std.proofs.Common.{sym, ap, ◌∙◌}
use Rattle.bv_terms.specs.TermTrees.{width}
use Rattle.bv_terms.proofs.Growing.{grows-both, grows-put}
use Rattle.flat_goals.proofs.agreeing.agreement.Goals as goal

pub joined-requires-2-clause-widths : goal.joined-requires-2-clause-widths
joined-requires-2-clause-widths c =
    ap width (c.joined.ensures.grown.kept.terms c.in_ok-differ.differ c.in_ok-differ.ensures.put.there) ∙ ap width c.in_ok-differ.ensures.put.term
    ∙ c.in_ok-equal.ensures.narrow
    ∙ sym (ap width c.in_ok-results.ensures.made.term)

pub returns-clause-grown : goal.returns-clause-grown
returns-clause-grown c =
    grows-both _ _ _ (grows-both _ _ _ c.equal_args.ensures.grown (grows-put _ _ c.not.ensures.kept c.not.ensures.few))
    (grows-both _ _ _ c.joined.ensures.grown c.joined-2.ensures.grown)
