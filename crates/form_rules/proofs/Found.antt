-- What the fold over a step gives, by the kind of the step.
use Rattle.std.specs.Prelude.{◌≡◌, ℕ, ◌||◌, Bool, false, Vec}
use Rattle.std.proofs.Common.{rules}
use Rattle.std.specs.declared.alloc.Global.{Global}
use Rattle.form_rules.specs.declared.steps.Value.{Value}
use Rattle.form_rules.specs.declared.steps.Move.{Move}
use Rattle.form_rules.specs.declared.steps.Step.{Step, the_lemmas}
use Rattle.form_rules.specs.declared.steps.Step.TheVariants as step
use Rattle.form_rules.specs.Following.{Holding}
use Rattle.form_rules.specs.Steps.{finder, finder_of, first_held, hides_in, is_hidden_by, moved_by}

pub found_move : (c : ℕ) (m : Move) (t : Holding → Bool) → finder c (step.Move m) t ≡ (λ q. t (moved_by c m q))
found_move c m t = search (rules, the_lemmas)

pub found_branch : (c k : ℕ) (a b : Vec Step Global) (t : Holding → Bool) →
    finder c (step.Branch k a b) t ≡ (λ s. finder_of c a.items (λ q. t (first_held k q)) s || finder_of c b.items (λ q. t (first_held k q)) s)
found_branch c k a b t = search (rules, the_lemmas)

pub found_fork : (c : ℕ) (a : Vec Step Global) (t : Holding → Bool) → finder c (step.Fork a) t ≡ is_hidden_by c a.items
found_fork c a t = search (rules, the_lemmas)

pub found_send : (c : ℕ) (v : Value) (t : Holding → Bool) → finder c (step.Send v) t ≡ hides_in c v
found_send c v t = search (rules, the_lemmas)
