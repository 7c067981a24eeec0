use Rattle.std.proofs.Common.{◌≡◌, ◌∙◌, ◌∷◌, ◌||◌, ◌+◌, [], ℕ, List, drop, rules, ap, subst, sym, refl, map}
use Rattle.std.proofs.lemmas.List.{drop_all, drop_more}
use Rattle.std.proofs.lemmas.Result.{IfOk-weaker}
use Rattle.form_rules.specs.declared.steps.Step.{Step}
use Rattle.form_rules.specs.declared.state.State.{State}
use Rattle.form_rules.specs.Steps.{ReachesBy, ReachesAfter, finder, holding_of}
use Rattle.form_rules.proofs.Found.{found_branch, found_fork}
use Rattle.form_rules.proofs.Tests.{same_tests}
use Rattle.form_rules.proofs.Running.{Followed, one_followed, all_followed, branch_reached, fork_reached}
use Rattle.form_rules.proofs.run.+run.Goals as goal
use Rattle.form_rules.proofs.run.+run.Goals.{run_steps-then-reached, run_steps-else-reached}

pub run_steps-loop-step-preserved : goal.run_steps-loop-step-preserved
run_steps-loop-step-preserved t c =
    let all : List Step = c.args.steps.now in
    let here : drop c.loop-step.step-index all ≡ c.step-item.result ∷ drop (c.loop-step.step-index + 1) all =
    drop_more all c.loop-step.step-index c.step-item.result c.loop-step-test.true ∙ ap (λ (s : Step). s ∷ drop (c.loop-step.step-index + 1) all) (sym c.step-item.is) in
    one_followed c.args.choice c.step-item.result (drop (c.loop-step.step-index + 1) all) all c.args.states.items c.loop-step.reached c.in_ok-next.next
    (record { states = c.in_ok-next.next.states; hides = c.if-reached.reached })
    (subst (λ (ss : List Step). Followed c.args.choice ss all c.args.states.items c.loop-step.reached) here c.loop-step.invariant)
    c.in_ok-next.ensures refl
    (elim c.if-reached.branch [
      | run_steps-then-reached w ↦ w.reached-is ∙ w.if-reached.true ∙ ap (λ b. b || c.in_ok-next.next.hides) (sym w.if-reached.true)
      | run_steps-else-reached w ↦ w.reached-is ∙ ap (λ b. b || c.in_ok-next.next.hides) (sym w.if-reached.false)
    ])

pub run_steps-returns : goal.run_steps-returns
run_steps-returns t c = all_followed c.args.choice (drop c.loop-step.step-index c.args.steps.now) c.args.steps.now c.args.states.items c.loop-step.reached (drop_all c.loop-step.step-index c.args.steps.now c.loop-step-test.false) c.loop-step.invariant

pub run_step-returns-in_ok-second-in-Branch : goal.run_step-returns-in_ok-second-in-Branch
run_step-returns-in_ok-second-in-Branch t c =
    IfOk-weaker c.join.result _ _ (λ r joins.
    branch_reached c.args.choice c.args.step.now c.in-Branch.count c.in-Branch.first.items c.in-Branch.second.items c.args.states.items c.in_ok-copies-in-Branch.copies.items
    c.in_ok-first-in-Branch.first c.in_ok-second-in-Branch.second r
    (λ u. ap (λ s. finder c.args.choice s u) c.in-Branch.is ∙ found_branch c.args.choice c.in-Branch.count c.in-Branch.first c.in-Branch.second u)
    (λ u. same_tests u c.in_ok-copies-in-Branch.copies.items c.args.states.items (c.in_ok-copies-in-Branch.ensures ∙ ap (map holding_of) c.deref.ensures.value))
    (subst (λ (ss : List Step). ReachesBy c.args.choice ss c.args.states.items c.in_ok-first-in-Branch.first) c.deref-in-Branch.ensures.value c.in_ok-first-in-Branch.ensures)
    (subst (λ (ss : List Step). ReachesBy c.args.choice ss c.in_ok-copies-in-Branch.copies.items c.in_ok-second-in-Branch.second) c.deref-in-Branch-2.ensures.value c.in_ok-second-in-Branch.ensures)
    joins) c.join.ensures

pub run_step-returns-in_ok-reached-in-Fork : goal.run_step-returns-in_ok-reached-in-Fork
run_step-returns-in_ok-reached-in-Fork t c =
    fork_reached c.args.choice c.args.step.now c.in-Fork.body.items c.args.states.items c.in_ok-reached-in-Fork.reached c.none_go_on.result
    (λ u. ap (λ s. finder c.args.choice s u) c.in-Fork.is ∙ found_fork c.args.choice c.in-Fork.body u)
    (subst (λ (ss : List Step). ReachesBy c.args.choice ss c.args.states.items c.in_ok-reached-in-Fork.reached) c.deref-in-Fork.ensures.value c.in_ok-reached-in-Fork.ensures)
    c.none_go_on.ensures
