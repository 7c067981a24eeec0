-- By what is read of its files, a command has one outcome at most, or such as agree.
use Rattle.std.proofs.Common.{◌≡◌, ◌⊎◌, ◌||◌, Bool, true, false, refl, List, [], ◌∷◌, Result, Ok, Err, ap, inl, inr}
use Rattle.command_line.specs.Command.{Command}
use Rattle.command_reports.specs.declared.refusal.Refusal.{Refusal}
use Rattle.command_reports.specs.declared.report.Report.{Report}
use Rattle.command_answers.specs.Commands.{standing_of}
use Rattle.command_answers.specs.Outcomes.{AllGood, good, FirstWith, here, later, EndsAt, Agree, Alike, equal, HasOutcome, IsGivenUp, ReportsOutcome, is_any_searched, steps}
use Rattle.command_answers.specs.Steps.{Inputs, Step, Decides, GivesUp, IsGood, Judges, assumptions_met, certificates_within, obligations_hold, of_generated, generated, is_searched}
use Rattle.cocoon_cli.specs.Run.{IsKnown, IsOnly}
use Rattle.cocoon_cli.proofs.Commands.{one_report, steps_decided}
use Rattle.cocoon_cli.proofs.OneStep.{AllDecided, Decided, Laws, Once, good_or_judged, good_or_refused, judged_or_refused, judges_once, refuses_once}

-- of two outcomes of some steps: they are one, or one of the steps is decided by a search
abbrev Two : (searched : Bool) → Inputs → List Step → (x y : Result Report Refusal) → Type 0
Two searched i ss x y = (x ≡ y) ⊎ ((searched ≡ true) × (Alike x y ⊎ (IsGivenUp i ss x ⊎ IsGivenUp i ss y)))

or_first : (a b : Bool) → a ≡ true → (a || b) ≡ true
or_first true b e = refl
or_first false b e = cc

or_second : (a b : Bool) → b ≡ true → (a || b) ≡ true
or_second true b e = refl
or_second false b e = e

-- a search that is given up is one
searched : (i : Inputs) (s : Step) (x : Result Report Refusal) → GivesUp i s x → is_searched s ≡ true
searched i (assumptions_met n) x h = refl
searched i (obligations_hold n m) x h = refl
searched i certificates_within x h = refl
searched i (of_generated hosts s) x h = searched (generated hosts) s x h
searched i s (Ok r) h = absurd h.1
searched i s (Err r) h = absurd h

-- so is one with a verdict
judged : (i : Inputs) (s : Step) (r : Report) → Judges i s r → is_searched s ≡ true
judged i (obligations_hold n m) r h = refl
judged i (of_generated hosts s) r h = judged (generated hosts) s r h
judged i s r h = absurd h

-- two refusals of a step are one, or alike where it is decided by a search
once_alike : (s : Step) (r q : Refusal) → Once s r q → (r ≡ q) ⊎ ((is_searched s ≡ true) × Alike (Err r) (Err q))
once_alike (assumptions_met n) r q h = inr (refl, h)
once_alike (of_generated hosts s) r q h = once_alike s r q h
once_alike s r q h = inl h

-- each of these steps is decided by the content that is known
once_two : (i : Inputs) (s : Step) (ss : List Step) (r q : Refusal) → Once s r q → Two (is_any_searched (s ∷ ss)) i (s ∷ ss) (Err r) (Err q)
once_two i s ss r q h = elim (once_alike s r q h) [
  | inl e ↦ inl (ap Err e)
  | inr (t, a) ↦ inr (or_first (is_searched s) (is_any_searched ss) t, inl a)
]

decides_once : Laws → (i : Inputs) (s : Step) (ss : List Step) (x y : Result Report Refusal) → Decided i s → Decides i s x → Decides i s y → Two (is_any_searched (s ∷ ss)) i (s ∷ ss) x y
decides_once laws i s ss (Ok r) (Ok q) b h k = inr (or_first (is_searched s) (is_any_searched ss) (judged i s r h), inl (judges_once laws i s r q h k))
decides_once laws i s ss (Ok r) (Err q) b h k = absurd (judged_or_refused i s r q h k)
decides_once laws i s ss (Err r) (Ok q) b h k = absurd (judged_or_refused i s q r k h)
decides_once laws i s ss (Err r) (Err q) b h k = once_two i s ss r q (refuses_once laws i s r q b h k)

good_or_decides : Laws → (i : Inputs) (s : Step) (x : Result Report Refusal) → Decided i s → IsGood i s → Decides i s x → ⊥
good_or_decides laws i s (Ok r) b g h = good_or_judged laws i s r g h
good_or_decides laws i s (Err r) b g h = good_or_refused laws i s r b g h

-- two outcomes of these steps that end at one
two_ends : Laws → (i : Inputs) (ss : List Step) (x y : Result Report Refusal) → AllDecided i ss → FirstWith i (EndsAt i x) ss → FirstWith i (EndsAt i y) ss → Two (is_any_searched ss) i ss x y
two_ends laws i [] x y a h k = elim h [ ]
two_ends laws i (s ∷ ss) x y a (here (inr h)) k = inr (or_first (is_searched s) (is_any_searched ss) (searched i s x h), inr (inl (here h)))
two_ends laws i (s ∷ ss) x y a (here (inl h)) (here (inr k)) = inr (or_first (is_searched s) (is_any_searched ss) (searched i s y k), inr (inr (here k)))
two_ends laws i (s ∷ ss) x y a (here (inl h)) (here (inl k)) = decides_once laws i s ss x y a.0 h k
two_ends laws i (s ∷ ss) x y a (here (inl h)) (later g k) = absurd (good_or_decides laws i s x a.0 g h)
two_ends laws i (s ∷ ss) x y a (later g h) (here (inr k)) = inr (or_first (is_searched s) (is_any_searched ss) (searched i s y k), inr (inr (here k)))
two_ends laws i (s ∷ ss) x y a (later g h) (here (inl k)) = absurd (good_or_decides laws i s y a.0 g k)
two_ends laws i (s ∷ ss) x y a (later g h) (later m k) = elim (two_ends laws i ss x y a.1 h k) [
  | inl e ↦ inl e
  | inr (t, inl e) ↦ inr (or_second (is_searched s) (is_any_searched ss) t, inl e)
  | inr (t, inr (inl u)) ↦ inr (or_second (is_searched s) (is_any_searched ss) t, inr (inl (later g u)))
  | inr (t, inr (inr u)) ↦ inr (or_second (is_searched s) (is_any_searched ss) t, inr (inr (later g u)))
]

-- where all are good, none ends the command but by giving up
all_good_or_ends : Laws → (i : Inputs) (ss : List Step) (x : Result Report Refusal) → AllDecided i ss → AllGood i ss → FirstWith i (EndsAt i x) ss → (is_any_searched ss ≡ true) × IsGivenUp i ss x
all_good_or_ends laws i [] x a g h = elim h [ ]
all_good_or_ends laws i (s ∷ ss) x a (good g gs) (here (inl h)) = absurd (good_or_decides laws i s x a.0 g h)
all_good_or_ends laws i (s ∷ ss) x a (good g gs) (here (inr h)) = (or_first (is_searched s) (is_any_searched ss) (searched i s x h), here h)
all_good_or_ends laws i (s ∷ ss) x a (good g gs) (later m h) =
    let rest = all_good_or_ends laws i ss x a.1 gs h in (or_second (is_searched s) (is_any_searched ss) rest.0, later m rest.1)

two_reports : Laws → (c : Command) (i : Inputs) (x y : Result Report Refusal) → IsKnown (standing_of c) i → ReportsOutcome c i x → ReportsOutcome c i y → x ≡ y
two_reports laws c i (Ok r) (Ok q) b h k = ap Ok (one_report laws c i r q b h k)
two_reports laws c i (Ok r) (Err q) b h k = absurd k
two_reports laws c i (Err r) y b h k = absurd h

two : Laws → (c : Command) (i : Inputs) (x y : Result Report Refusal) → IsKnown (standing_of c) i → HasOutcome c i x → HasOutcome c i y → Two (is_any_searched (steps c)) i (steps c) x y
two laws c i x y b (inl h) (inl k) = two_ends laws i (steps c) x y (steps_decided laws c i b) h k
two laws c i x y b (inl h) (inr k) = let u = all_good_or_ends laws i (steps c) x (steps_decided laws c i b) k.0 h in inr (u.0, inr (inl u.1))
two laws c i x y b (inr h) (inl k) = let u = all_good_or_ends laws i (steps c) y (steps_decided laws c i b) h.0 k in inr (u.0, inr (inr u.1))
two laws c i x y b (inr h) (inr k) = inl (two_reports laws c i x y b h.1 k.1)

agree : (searched : Bool) (i : Inputs) (ss : List Step) (x y : Result Report Refusal) → Two searched i ss x y → Agree searched i ss x y
agree true i ss x y (inl h) = inl (equal h)
agree true i ss x y (inr h) = h.1
agree false i ss x y (inl h) = h
agree false i ss x y (inr h) = absurd (let no : false ≡ true = h.0 in cc)

pub one : Laws → (c : Command) (i : Inputs) (outcome : Result Report Refusal) → HasOutcome c i outcome → IsOnly c i outcome
one laws c i outcome h = λ known other k. agree (is_any_searched (steps c)) i (steps c) other outcome (two laws c i other outcome known k h)
