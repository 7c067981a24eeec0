-- Cited by the clauses of `flatten`: the applications that became inputs.
use Rattle.std.specs.Prelude.{◌≡◌, ℕ, ◌<◌, true, List, All, Some, length, slice_get}
use Rattle.std.specs.List.{AllZip}
use Rattle.bv_terms.specs.declared.node.Node.{Node}
use Rattle.bv_terms.specs.declared.node.Node.TheVariants.{Input}
use Rattle.bv_terms.specs.Arenas.{args_of, term_at}
use Rattle.bv_terms.specs.TermTrees.{Term, width}
use Rattle.bv_terms.specs.Walks.{applications}
use Rattle.flat_laws.specs.Flat.{args_in, reduced_args}
use Rattle.flat_laws.specs.Rows.{is_of, result_input}
use Rattle.flat_goals.specs.declared.applied.Applied.{Applied}

-- the arena has this input, of this width
abbrev pub HasInput : List Node → (number width : ℕ) → Type 0
HasInput nodes i w = (k : ℕ) × (slice_get nodes k ≡ Some (Input i w))

-- the application of the goal: its function, its arguments as they are in the flat goal, and its input
pub record IsApplied (nodes : List Node) (goal : Term) (first : ℕ) (t : Term) (a : Applied) : Type 0 where
  pub function : is_of a.function t ≡ true
  pub there : All (λ k. k < length nodes) a.args
  pub args : args_of (term_at nodes) a.args ≡ reduced_args (applications goal) first (args_in t)
  pub result : a.result ≡ result_input goal first t
  pub input : HasInput nodes a.result (width t)

-- each application of the goal, in order
abbrev pub AreApplied : List Node → (goal : Term) (first : ℕ) → List Applied → Type 0
AreApplied nodes goal first applied = AllZip (IsApplied nodes goal first) (applications goal) applied
