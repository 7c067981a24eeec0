-- Cited by private clauses: applications, and what their functions give.
use Rattle.std.specs.Prelude.{◌≡◌, ℕ, ◌<◌, ◌≤◌, List, All, Some, length, slice_get}
use Rattle.std.specs.List.{AllZip}
use Rattle.bv_terms.specs.Arenas.{term_at, width_at}
use Rattle.bv_terms.specs.Environments.{Covers, functions_of, inputs_of}
use Rattle.bv_terms.specs.TermTrees.{IsTerm}
use Rattle.bv_terms.specs.TermValues.{number_in, term_value}
use Rattle.bv_terms.specs.declared.eval.Env.{Env}
use Rattle.bv_terms.specs.declared.node.Node.{Node}
use Rattle.cocoon_num.specs.Values.{FitsWidth}
use Rattle.flat_goals.specs.declared.applied.Applied.{Applied}
use Rattle.runtime_defs.specs.declared.lookups.Lookup.{Lookup}

-- ---- arguments

-- the term has a value of at most 64 bits
pub record CanEvaluate (nodes : List Node) (env : Env) (k : ℕ) : Type 0 where
  pub there : k < length nodes
  pub term : IsTerm (term_at nodes k)
  pub narrow : width_at nodes k ≤ 64
  pub covered : Covers env (term_at nodes k)

-- the number is its value, and fits its width
pub record IsArgument (nodes : List Node) (env : Env) (k n : ℕ) : Type 0 where
  pub value : n ≡ number_in (term_value (functions_of env) (inputs_of env) (term_at nodes k))
  pub fits : FitsWidth (width_at nodes k) n

-- ---- applications

pub record CanLook (nodes : List Node) (env : Env) (a : Applied) : Type 0 where
  pub args : All (CanEvaluate nodes env) a.args
  pub result : a.result < length env.inputs

-- the function gives the value of the application's input at the values of its arguments
pub record IsLookup (nodes : List Node) (env : Env) (a : Applied) (l : Lookup) : Type 0 where
  pub function : l.function ≡ a.function
  pub args : AllZip (IsArgument nodes env) a.args l.args
  pub result : slice_get env.inputs a.result ≡ Some l.result
