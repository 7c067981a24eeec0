-- Cited by the clauses of `blast` and of `InputMap`, and by the laws on clauses: what numbers a valuation of the literals
-- gives the inputs.
use Rattle.std.specs.Prelude.{◌≡◌, ℕ, ◌+◌, ◌*◌, ℤ, Bool, List, [], ◌∷◌, length, IsTrue, if◌then◌else◌}
use Rattle.bv_terms.specs.TermTrees.{Term, input}
use Rattle.bv_terms.specs.TermValues.{Inputs}
use Rattle.bv_terms.specs.Inputs.{Mentions}
use Rattle.cnf_core.specs.Satisfying.{makes_true}
use Rattle.cnf_core.specs.declared.clauses.Assignment.{Assignment}
use Rattle.bit_blast.specs.Clauses.{bits_in, clauses_of, goal_blasted, vars_of}
use Rattle.bit_blast.specs.Meanings.{all_hold}

-- the number of these bits, from bit 0 on
abbrev pub number_read : (ℤ → Bool) → List ℤ → ℕ
number_read v [] = 0
number_read v (b ∷ bits) = (if v b then 1 else 0) + 2 * number_read v bits

-- the literals of an input: none, if the goal does not have it
abbrev pub input_bits : Term → (i w : ℕ) → List ℤ
input_bits goal i w = bits_in (goal_blasted goal).table (input i w)

-- each input of the goal is the number of its literals
abbrev pub ReadsAs : Term → (ℤ → Bool) → Inputs → Type 0
ReadsAs goal v ins = (i w : ℕ) → Mentions goal i w → ins i ≡ number_read v (input_bits goal i w)

-- an assignment of all variables, under which the clauses hold and the inputs are these
pub record Extends (goal : Term) (ins : Inputs) (a : Assignment) : Type 0 where
  pub values : length a.values ≡ vars_of goal
  pub holds : IsTrue (all_hold (makes_true a) (clauses_of goal))
  pub reads : ReadsAs goal (makes_true a) ins
