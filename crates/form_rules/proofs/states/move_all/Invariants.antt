use Rattle.std.proofs.Common.{◌≡◌, ◌||◌, Bool, vec_len}
use Rattle.form_rules.specs.Following.{Holding}
use Rattle.form_rules.specs.Steps.{moved_by, some_holds}
use Rattle.form_rules.proofs.states.move_all.Given as goal

abbrev pub invariant-loop-state : goal.invariant-loop-state
invariant-loop-state l = (t : Holding → Bool) → (some_holds t l.found.items || some_holds (λ s. t (moved_by l.choice l.step s)) l.states.items) ≡ some_holds (λ s. t (moved_by l.choice l.step s)) l.fn.states.items

abbrev pub decreases-loop-state : goal.decreases-loop-state
decreases-loop-state l = vec_len l.states
