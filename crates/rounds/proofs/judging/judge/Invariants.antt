use Rattle.cocoon_syntax.specs.TreeOf.{design_of}
use Rattle.rounds.specs.Steps.{IsJudged}
use Rattle.rounds.proofs.judging.judge.Given as goal

abbrev pub invariant-loop-at : goal.invariant-loop-at
invariant-loop-at l = IsJudged (design_of l.checked) l.level l.satisfied l.budget.conflicts l.best
