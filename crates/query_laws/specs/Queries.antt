-- Cited by the clauses of the laws of this crate and by those of code that asks queries: the goal that is asked of a formula, with
-- instances of assumptions. It follows the section "Queries of obligations" of docs/CLAUSES.md.
use Rattle.std.specs.Prelude.{ℕ, ◌<◌, List, ◌∷◌, ◌++◌, length, map, Some, None, slice_get}
use Rattle.cocoon_num.specs.Tree.{Design}
use Rattle.cocoon_resolve.specs.Readers.{all_assumptions, assumptions_to}
use Rattle.bv_terms.specs.TermTrees.{Term, constant}
use Rattle.bv_terms.specs.declared.node.TermOp.TheVariants.{And}
use Rattle.cnf_core.specs.declared.certificates.Instance.{Instance}
use Rattle.flat_laws.specs.Flat.{flattened}
use Rattle.fun_instances.specs.AssumptionTerms.{value_term}
use Rattle.fun_instances.specs.Taking.{NumbersFit, OfAssumption}
use Rattle.query_laws.specs.Tuples.{pattern_terms}
use Rattle.bv_terms.specs.Chains.{chain}
use Rattle.query_laws.specs.OwnNames.{in_own_arena, input_count}

-- ---- instances

-- the assumption is one of levels 0 to this one, and has a number for each parameter, which fits it
pub record Fits (d : Design) (level : ℕ) (i : Instance) : Type 0 where
  pub among : i.number < length (assumptions_to level d)
  pub values : OfAssumption d i.number (λ a. NumbersFit a i.values)

-- what an instance says; one of no assumption says nothing
abbrev pub instance_term : Design → Instance → Term
instance_term d i = elim (slice_get (all_assumptions d) i.number) [ None ↦ constant 1 1 | Some a ↦ value_term d a i.values ]

-- ---- queries

-- what is added to a formula: what it takes of the assumptions by their patterns, and the instances
abbrev pub added : Design → (level : ℕ) → (formula : Term) → List Instance → List Term
added d level formula instances =
    pattern_terms d level (in_own_arena formula) ++ map (instance_term d) instances

-- the formula and what is added: all are true
abbrev pub asked : Design → (level : ℕ) → (formula : Term) → List Instance → Term
asked d level formula instances =
    chain And (constant 1 1) (in_own_arena formula ∷ added d level formula instances)

-- the same without functions
abbrev pub query : Design → (level : ℕ) → (formula : Term) → List Instance → Term
query d level formula instances = flattened (asked d level formula instances) (input_count formula)
