-- Cited by private clauses: a goal in an arena that is searched in the place of another one, and what is found with it.
use Rattle.std.specs.Prelude.{◌≡◌, ℕ, ◌<◌, List, Some, length, slice_get}
use Rattle.bit_blast.specs.Blasting.{InputRow, MapsInputs}
use Rattle.bit_blast.specs.Goals.{IsGoal}
use Rattle.bv_terms.specs.Arenas.{term_at}
use Rattle.bv_terms.specs.Environments.{Covers}
use Rattle.bv_terms.specs.TermTrees.{Term}
use Rattle.bv_terms.specs.TermValues.{Functions, term_value}
use Rattle.bv_terms.specs.declared.eval.Env.{Env}
use Rattle.bv_terms.specs.declared.node.Node.{Node}
use Rattle.bv_terms.specs.declared.node.Node.TheVariants.{Input}
use Rattle.candidates.specs.Assigned.{assigned}
use Rattle.cnf_core.specs.Satisfying.{makes_true}
use Rattle.cnf_core.specs.declared.clauses.Assignment.{Assignment}
use Rattle.cocoon_num.specs.Values.{number}
use Rattle.cocoon_num.specs.declared.bits.Bits.{Bits}
use Rattle.queries.specs.declared.asking.OwnGoal.{OwnGoal}
use Rattle.rounds.specs.declared.asking.Satisfied.{Satisfied as Solved}

-- the term of the arena is a goal
pub record IsPart (nodes : List Node) (id : ℕ) : Type 0 where
  pub there : id < length nodes
  pub goal : IsGoal (term_at nodes id)

-- the rows have the bits of all inputs of the arena, in the clauses of some term
pub record IsMapped (nodes : List Node) (rows : List InputRow) : Type 0 where
  pub searched : Term
  pub mapped : MapsInputs nodes searched rows

-- the goal is one, and can be tried with the rows
pub record CanTry (own : OwnGoal) (rows : List InputRow) : Type 0 where
  pub part : IsPart own.terms own.goal
  pub inputs : IsMapped own.terms rows

-- the goal is true at the numbers that the assignment gives the inputs
pub record IsTrueOf (own : OwnGoal) (rows : List InputRow) (x : Assignment) (m : Solved) : Type 0 where
  pub of : m ≡ record { own = own; inputs = rows; assignment = x }
  pub is_true : (F : Functions) → term_value F (assigned (makes_true x) rows) (term_at own.terms own.goal) ≡ number 1 1

-- the environment has what the term of the arena needs
pub record IsReadable (env : Env) (nodes : List Node) (id : ℕ) : Type 0 where
  pub there : id < length nodes
  pub covered : Covers env (term_at nodes id)

-- the term of the arena is an input of the width of these bits
pub record IsInput (nodes : List Node) (id : ℕ) (b : Bits) : Type 0 where
  pub input : ℕ
  pub node : slice_get nodes id ≡ Some (Input input b.width)
