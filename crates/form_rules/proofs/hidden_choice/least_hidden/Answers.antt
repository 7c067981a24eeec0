use Rattle.std.proofs.Common.{◌∙◌, ◌+◌, ℕ, Bool, List, rules, take, get_or, ap, subst}
use Rattle.std.proofs.lemmas.List.{take_more, take_all}
use Rattle.form_rules.specs.Following.{IsLeastOf, at_start}
use Rattle.form_rules.specs.Steps.{is_hidden_by}
use Rattle.form_rules.proofs.LeastHidden.{more_tried}
use Rattle.form_rules.proofs.hidden_choice.least_hidden.Goals as goal

pub loop-choice-preserved : goal.loop-choice-preserved
loop-choice-preserved c =
    let i : ℕ = c.loop-choice.choice-index in
    let at : ℕ = get_or c.args.choices.now i 0 in
    let f : ℕ → Bool = λ k. is_hidden_by k c.args.steps.now (at_start c.args.fields.now) in
    more_tried f (take i c.args.choices.now) (take (i + 1) c.args.choices.now) at c.loop-choice.least c.in_ok-least.least
    (take_more c.args.choices.now i 0 c.loop-choice-test.true) c.in_ok-least.ensures c.loop-choice.invariant

pub returns : goal.returns
returns c =
    subst (λ (ns : List ℕ). IsLeastOf (λ k. is_hidden_by k c.args.steps.now (at_start c.args.fields.now)) ns c.loop-choice.least) (take_all c.loop-choice.choice-index c.args.choices.now c.loop-choice-test.false) c.loop-choice.invariant
