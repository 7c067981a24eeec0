use Rattle.std.proofs.Common.{take}
use Rattle.form_rules.specs.Following.{IsLeastOf, at_start}
use Rattle.form_rules.specs.Steps.{is_hidden_by}
use Rattle.form_rules.proofs.hidden_choice.least_hidden.Given as goal

abbrev pub invariant-loop-choice : goal.invariant-loop-choice
invariant-loop-choice l = IsLeastOf (λ c. is_hidden_by c l.steps (at_start l.fields)) (take l.choice-index l.choices) l.least
