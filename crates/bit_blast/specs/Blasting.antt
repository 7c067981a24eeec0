-- Cited by the clauses of `blast` and of `InputMap`: what they give.
use Rattle.std.specs.Prelude.{◌≡◌, ℕ, ◌<◌, ℤ, List, map, length, Some, slice_get}
use Rattle.bv_terms.specs.TermTrees.{Term}
use Rattle.bv_terms.specs.Arenas.{inputs_in}
use Rattle.bv_terms.specs.declared.node.Node.{Node}
use Rattle.bv_terms.specs.declared.node.Node.TheVariants.{Input}
use Rattle.cnf_core.specs.Clauses.{literals}
use Rattle.cnf_core.specs.declared.clauses.Cnf.{Cnf}
use Rattle.bit_blast.specs.Clauses.{clauses_of, count_of, vars_of}
use Rattle.bit_blast.specs.Emitted.{numbers}
use Rattle.bit_blast.specs.Readings.{input_bits}
use Rattle.bit_blast.specs.declared.blasting.BlastFault.{BlastFault}
use Rattle.bit_blast.specs.declared.blasting.BlastFault.TheVariants.{Clauses, NoMemory}
use Rattle.bit_blast.specs.declared.input_bits.InputBits.{InputBits}

-- the whole list of a goal, and how many variables it has
pub record IsClauses (cnf : Cnf) (goal : Term) : Type 0 where
  pub clauses_are : map literals cnf.clauses ≡ clauses_of goal
  pub vars_are : cnf.vars ≡ vars_of goal

abbrev pub most_clauses : ℕ
most_clauses = 4000000

-- the count is said exactly where it is too large
abbrev pub IsFault : Term → BlastFault → Type 0
IsFault goal (Clauses count) = (count ≡ count_of goal) × (most_clauses < count)
IsFault goal NoMemory = Unit {0}

-- ---- inputs

-- the width of an input, and the literals of its bits: none, if the goal does not have it
pub record InputRow : Type 0 where
  pub width : ℕ
  pub bits : List ℤ

abbrev pub row_of : InputBits → InputRow
row_of input = record { width = input.width; bits = numbers input.bits.items }

-- a row for each input of the arena
pub record MapsInputs (nodes : List Node) (goal : Term) (rows : List InputRow) : Type 0 where
  pub count : length rows ≡ inputs_in nodes
  pub each_ : (i k w : ℕ) → slice_get nodes k ≡ Some (Input i w) → slice_get rows i ≡ Some (record { width = w; bits = input_bits goal i w })
