use Rattle.std.proofs.Common.{◌≡◌, ◌||◌, Bool, vec_len}
use Rattle.form_rules.specs.Following.{Holding}
use Rattle.form_rules.specs.Steps.{first_held, some_holds}
use Rattle.form_rules.proofs.states.leave_all.Given as goal

abbrev pub invariant-loop-state : goal.invariant-loop-state
invariant-loop-state l = (t : Holding → Bool) → (some_holds t l.found.items || some_holds (λ s. t (first_held l.count s)) l.states.items) ≡ (some_holds t l.fn.found.items || some_holds (λ s. t (first_held l.count s)) l.fn.states.items)

abbrev pub decreases-loop-state : goal.decreases-loop-state
decreases-loop-state l = vec_len l.states
