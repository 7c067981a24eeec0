-- Cited by the clauses of the laws of this crate: which goals are flattened, and what the new inputs are.
use Rattle.std.specs.Prelude.{◌≡◌, ℕ, ◌-◌, ◌<◌, nat_lt, if◌then◌else◌}
use Rattle.bv_terms.specs.Arenas.{nth}
use Rattle.bv_terms.specs.Inputs.{Applies, Mentions}
use Rattle.bv_terms.specs.TermTrees.{Term, Args, IsTerm, arg_widths, width}
use Rattle.bv_terms.specs.TermValues.{Functions, Inputs, number_in, term_value}
use Rattle.bv_terms.specs.Walks.{applications}

-- any two applications of a function have equal widths
abbrev pub AppliesAlike : Term → Type 0
AppliesAlike goal =
    (f v w : ℕ) (ts us : Args) → Applies goal f ts v → Applies goal f us w
    → (arg_widths ts ≡ arg_widths us) × (v ≡ w)

-- no input of the goal is a new one
abbrev pub HasInputsBelow : ℕ → Term → Type 0
HasInputsBelow first goal = (i w : ℕ) → Mentions goal i w → i < first

pub record CanFlatten (goal : Term) (first : ℕ) : Type 0 where
  pub term : IsTerm goal
  pub truth : width goal ≡ 1
  pub alike : AppliesAlike goal
  pub below : HasInputsBelow first goal

-- the inputs, with the values of the applications as new ones
abbrev pub with_results : Functions → Inputs → Term → (first : ℕ) → Inputs
with_results F ins goal first i =
    if nat_lt i first then ins i
    else number_in (term_value F ins (nth (applications goal) (i - first)))
