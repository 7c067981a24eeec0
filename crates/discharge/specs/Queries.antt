-- Cited by the clauses of `meets`: the query of an assumption, which is true where the assumption is not. It follows the section
-- "Queries of assumptions" of docs/CLAUSES.md.
use Rattle.std.specs.Prelude.{ℕ, ℤ, Bool, List, [], ◌∷◌, suc}
use Rattle.cocoon_num.specs.Tree.{AssumeDecl, Design}
use Rattle.cocoon_types.specs.Design.{widths_of}
use Rattle.bit_blast.specs.Goals.{IsGoal}
use Rattle.bit_blast.specs.Readings.{input_bits, number_read}
use Rattle.bv_terms.specs.TermTrees.{IsTerm, Term, not_}
pub use Rattle.fun_instances.specs.AssumptionTerms.{inputs_from, own_term}
use Rattle.bv_terms.specs.WithRows.{Tables, with_rows}

-- that it is not true, with choices over the rows of the tables in the place of functions
abbrev pub assumption_query : Design → AssumeDecl → Tables → Term
assumption_query d a tables = with_rows tables (not_ (own_term d a))

-- these are terms, and the query is a goal
pub record CanBeAsked (d : Design) (a : AssumeDecl) (tables : Tables) : Type 0 where
  pub own : IsTerm (own_term d a)
  pub goal : IsGoal (assumption_query d a tables)

-- ---- the values that an assignment gives

-- those of the inputs of these widths, by their literals in the clauses of a goal: 0, if the goal does not have the input
abbrev pub inputs_read : (ℤ → Bool) → (goal : Term) → ℕ → (widths : List ℕ) → List ℕ
inputs_read v goal i [] = []
inputs_read v goal i (w ∷ ws) = number_read v (input_bits goal i w) ∷ inputs_read v goal (suc i) ws

-- those of the parameters
abbrev pub values_read : (ℤ → Bool) → Design → AssumeDecl → Tables → List ℕ
values_read v d a tables = inputs_read v (assumption_query d a tables) 0 (widths_of a.params)
