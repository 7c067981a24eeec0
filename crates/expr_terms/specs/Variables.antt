-- Cited by the clauses of all that reads or binds variables and fields: their terms in an arena.
use Rattle.std.specs.Prelude.{◌≡◌, ℕ, ◌<◌, List, All, length, map, reverse, Option, Some, None}
use Rattle.bv_terms.specs.declared.node.Node.{Node}
use Rattle.bv_terms.specs.Arenas.{inputs_in, KeepsTerms, term_at}
use Rattle.bv_terms.specs.TermTrees.{Term}
use Rattle.obligation_laws.specs.TermOf.{TermEnv, no_term}
use Rattle.expr_terms.specs.declared.variables.Variable.{Variable}

abbrev pub variable_of : List Node → Variable → List ℕ × Term
variable_of nodes v = (v.name.now, term_at nodes v.term)

-- the variables with their terms, the last that was bound first
abbrev pub variables_of : List Node → List Variable → TermEnv
variables_of nodes vs = map (variable_of nodes) (reverse vs)

-- terms by their numbers
abbrev pub terms_at : List Node → List ℕ → List Term
terms_at nodes ids = map (term_at nodes) ids

-- the arena has them
abbrev pub AreThere : List Node → List ℕ → Type 0
AreThere nodes ids = All (λ k. k < length nodes) ids

abbrev pub VariablesThere : List Node → List Variable → Type 0
VariablesThere nodes vs = All (λ (v : Variable). v.term < length nodes) vs

-- the term of a number that was found
abbrev pub found_term : List Node → Option ℕ → Term
found_term nodes None = no_term
found_term nodes (Some k) = term_at nodes k

abbrev pub IsThere : List Node → Option ℕ → Type 0
IsThere nodes None = Unit {0}
IsThere nodes (Some k) = k < length nodes

-- ---- what calls make

-- the term has this number
pub record Makes (nodes : List Node) (id : ℕ) (t : Term) : Type 0 where
  pub there : id < length nodes
  pub term : term_at nodes id ≡ t

-- the terms have these numbers
pub record MakesAll (nodes : List Node) (ids : List ℕ) (ts : List Term) : Type 0 where
  pub there : AreThere nodes ids
  pub terms : terms_at nodes ids ≡ ts

-- each old term stays under its number, and there is no new input
pub record Keeps (old new : List Node) : Type 0 where
  pub kept : KeepsTerms old new
  pub inputs : inputs_in new ≡ inputs_in old
