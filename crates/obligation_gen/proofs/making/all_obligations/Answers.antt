use Rattle.std.proofs.Common.{◌≡◌, sym, ◌∙◌}
use Rattle.obligation_gen.proofs.LargeCounts.{passed}
use Rattle.obligation_gen.proofs.making.all_obligations.Goals as goal

pub returns-in_err-count_all-clause-paths : goal.returns-in_err-count_all-clause-paths
returns-in_err-count_all-clause-paths c = passed c.from_residual.result c.in_err-count_all.field-0.0 _ c.from_residual.ensures.1 c.in_err-count_all.ensures.told

pub returns-in_err-of_levels-clause-unmade : goal.returns-in_err-of_levels-clause-unmade
returns-in_err-of_levels-clause-unmade c = λ count e. let both = sym c.in_ok-count_all.ensures.few ∙ e in absurd (cc)

pub returns-clause-unmade : goal.returns-clause-unmade
returns-clause-unmade c = λ count e. let both = sym c.in_ok-count_all.ensures.few ∙ e in absurd (cc)
