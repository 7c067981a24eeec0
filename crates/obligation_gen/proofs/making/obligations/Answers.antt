use Rattle.std.proofs.Common.{◌≡◌, ◌-◌, sym, ◌∙◌}
use Rattle.obligation_gen.specs.declared.tree.InlineFault.TheVariants.{NoMemory}
use Rattle.obligation_gen.proofs.LargeCounts.{passed}
use Rattle.obligation_gen.proofs.making.obligations.Goals as goal

pub returns-in_err-count_leaves-clause-paths : goal.returns-in_err-count_leaves-clause-paths
returns-in_err-count_leaves-clause-paths c = passed c.from_residual.result c.in_err-count_leaves.field-0.0 _ c.from_residual.ensures.1 c.in_err-count_leaves.ensures.told

pub returns-in_err-of_block-clause-unmade : goal.returns-in_err-of_block-clause-unmade
returns-in_err-of_block-clause-unmade c = λ count e. let both = sym c.in_ok-count_leaves.ensures.few ∙ e in absurd (cc)

pub returns-clause-unmade : goal.returns-clause-unmade
returns-clause-unmade c = λ count e. let both = sym c.in_ok-count_leaves.ensures.few ∙ e in absurd (cc)
