use Rattle.std.proofs.Common.{ap, ◌∙◌}
use Rattle.bv_terms.specs.TermTrees.{width}
use Rattle.bv_terms.specs.Arenas.{args_of, term_at}
use Rattle.bv_terms.proofs.Choices.{test-width}
use Rattle.bv_terms.proofs.rows.row_choice.Goals as goal

pub pick-requires-clause-choice : goal.pick-requires-clause-choice
pick-requires-clause-choice c =
    ap width (c.number.ensures.grown.kept.terms c.in_ok-test.test c.in_ok-test.ensures.made.there) ∙ ap width c.in_ok-test.ensures.made.term
    ∙ test-width c.args.row.now (args_of (term_at c.args.terms.now) c.args.args.now)
