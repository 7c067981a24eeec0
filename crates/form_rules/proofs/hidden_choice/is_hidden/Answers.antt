use Rattle.std.proofs.Common.{◌≡◌, ◌∙◌, ◌∷◌, ◌++◌, [], Bool, false, List, ap, sym}
use Rattle.std.proofs.Math.Bool.{or-false}
use Rattle.form_rules.specs.declared.state.State.{State}
use Rattle.form_rules.specs.Following.{Holding}
use Rattle.form_rules.specs.Steps.{holding_of, is_hidden_by, some_holds}
use Rattle.form_rules.proofs.Running.{hides_is}
use Rattle.form_rules.proofs.hidden_choice.is_hidden.Goals as goal

pub returns : goal.returns
returns c =
    let first : State = c.in_ok-first_state.field-0 in
    let u : Holding → Bool = is_hidden_by c.args.choice c.args.steps.now in
    let one : c.push.new.self.items ≡ first ∷ [] = c.in_ok-push.ensures.items ∙ ap (λ (ss : List State). ss ++ (first ∷ [])) c.new-states.ensures.items in
    sym (hides_is c.in_ok-reached.reached) ∙ c.in_ok-reached.ensures (λ q. false) ∙ ap (some_holds u) one ∙ or-false (u (holding_of first)) ∙ ap u c.in_ok-first_state.ensures
