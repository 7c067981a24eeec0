-- Cited by the clauses of `candidate`: a goal in an arena, flat, and candidates of queries, under which their formulas are true.
use Rattle.std.specs.Prelude.{◌≡◌, ℕ, ◌<◌, List, length}
use Rattle.bit_blast.specs.Blasting.{InputRow, MapsInputs}
use Rattle.bv_terms.specs.Arenas.{term_at}
use Rattle.bv_terms.specs.TermTrees.{IsTerm, Term}
use Rattle.bv_terms.specs.TermValues.{Functions, term_value}
use Rattle.bv_terms.specs.declared.node.Node.{Node}
use Rattle.cnf_core.specs.declared.certificates.Instance.{Instance}
use Rattle.cnf_core.specs.Satisfying.{makes_true}
use Rattle.cnf_core.specs.declared.clauses.Assignment.{Assignment}
use Rattle.cocoon_num.specs.Tree.{Design}
use Rattle.cocoon_num.specs.Values.{number}
use Rattle.flat_goals.specs.Applied.{AreApplied}
use Rattle.flat_goals.specs.declared.applied.Applied.{Applied}
use Rattle.flat_laws.specs.Flat.{flattened}
use Rattle.flat_laws.specs.Meant.{CanFlatten}
use Rattle.query_laws.specs.LeafTerms.{AppliesDeclared, Stands}
use Rattle.query_laws.specs.Certified.{AllFit}
use Rattle.query_laws.specs.OwnNames.{input_count, own_name}
use Rattle.query_laws.specs.Queries.{asked, query}
use Rattle.bv_terms.specs.WithRows.{Tables}
use Rattle.query_laws.specs.Candidates.{IsCandidate, MakeTrue}
use Rattle.candidates.specs.Assigned.{assigned}

-- the arena has this term
pub record Has (nodes : List Node) (t : Term) : Type 0 where
  pub number : ℕ
  pub there : number < length nodes
  pub is : term_at nodes number ≡ t

-- The arena has the goal, which applies run-time functions of the design alone, and the same flat. These applications became
-- inputs, and the rows have the bits of all inputs, in the clauses of the term that was searched.
pub record IsFlat (d : Design) (nodes : List Node) (applied : List Applied) (rows : List InputRow) (goal : Term) (first : ℕ) : Type 0 where
  pub can : CanFlatten goal first
  pub over : AppliesDeclared d goal
  pub goal_ : Has nodes goal
  pub flat : Has nodes (flattened goal first)
  pub applied_ : AreApplied nodes goal first applied
  pub searched : Term
  pub mapped : MapsInputs nodes searched rows

-- so it is with some goal
pub record IsFlatGoal (d : Design) (nodes : List Node) (applied : List Applied) (rows : List InputRow) : Type 0 where
  pub goal : Term
  pub first : ℕ
  pub flat : IsFlat d nodes applied rows goal first

-- what was asked of a formula with instances, and an assignment that gives the inputs numbers at which the query is true
pub record IsSatisfied (d : Design) (nodes : List Node) (applied : List Applied) (rows : List InputRow) (x : Assignment) (level : ℕ) (formula : Term) (instances : List Instance) : Type 0 where
  pub stands : Stands d 1 formula
  pub fit : AllFit d level instances
  pub term : IsTerm (asked d level formula instances)
  pub flat : IsFlat d nodes applied rows (asked d level formula instances) (input_count formula)
  pub is_true : (F : Functions) → term_value F (assigned (makes_true x) rows) (query d level formula instances) ≡ number 1 1

-- the tables are a candidate of each formula with instances of which this was asked
abbrev pub IsCandidateOf : Design → List Node → List Applied → List InputRow → Assignment → Tables → Type 0
IsCandidateOf d nodes applied rows x tables =
    (level : ℕ) (formula : Term) (instances : List Instance) → IsSatisfied d nodes applied rows x level formula instances
    → IsCandidate d level formula instances tables

-- each such formula is true under the tables at the numbers that the assignment gives its inputs
abbrev pub MakesFormulaTrue : Design → List Node → List Applied → List InputRow → Assignment → Tables → Type 0
MakesFormulaTrue d nodes applied rows x tables =
    (level : ℕ) (formula : Term) (instances : List Instance) → IsSatisfied d nodes applied rows x level formula instances
    → MakeTrue tables (λ i. assigned (makes_true x) rows (own_name formula i)) formula
