-- Cited by the clauses of the laws and by those of code that makes instances: the assumptions of some levels, each taken at the
-- terms that a goal has where the assumption has its parameters. It follows the section "Instances" of docs/CLAUSES.md.
use Rattle.std.specs.Prelude.{ℕ, zero, suc, ◌==◌, ◌&&◌, Bool, true, false, List, [], ◌∷◌, ◌++◌, filter_map, flat_map, fold, length, map, take, if◌then◌else◌, Option, Some, None}
use Rattle.std.specs.List.{list_any}
use Rattle.cocoon_num.specs.Tree.{AssumeDecl, Design}
use Rattle.cocoon_resolve.specs.Readers.{assumptions_to}
use Rattle.bv_terms.specs.TermTrees.{Term, Args, constant, apply, no_args, arg}
use Rattle.bv_terms.specs.Walks.{applications, same_term}
use Rattle.fun_instances.specs.AssumptionTerms.{assumption_term}
use Rattle.query_laws.specs.Patterns.{Pattern, patterns}

-- ---- at one application

-- an argument by its place, and past the last one some tree that is no term
abbrev pub arg_at : Args → ℕ → Term
arg_at no_args k = constant 0 0
arg_at (arg t ts) zero = t
arg_at (arg t ts) (suc k) = arg_at ts k

-- the terms that stand for the parameters, where the application is of the pattern's function
abbrev pub tuple_of : Term → Pattern → Option (List Term)
tuple_of (apply f args w) p = if f == p.function then Some (map (arg_at args) p.places) else None
tuple_of t p = None

-- ---- each tuple once

abbrev pub same_tuple : (ts us : List Term) → Bool
same_tuple [] [] = true
same_tuple (t ∷ ts) (u ∷ us) = same_term t u && same_tuple ts us
same_tuple _ _ = false

-- a tuple is taken where it stands first
abbrev pub with_tuple : List (List Term) → List Term → List (List Term)
with_tuple seen ts = if list_any (λ us. same_tuple us ts) seen then seen else seen ++ ts ∷ []

abbrev pub distinct_tuples : List (List Term) → List (List Term)
distinct_tuples tuples = fold with_tuple [] tuples

-- ---- of one assumption

-- what these applications give, one after the other, each by the patterns in their order
abbrev pub tuples_at : List Pattern → (applied : List Term) → List (List Term)
tuples_at ps applied = flat_map (λ t. filter_map (tuple_of t) ps) applied

-- an assumption without parameters is taken once
abbrev pub tuples_of : Design → AssumeDecl → (goal : Term) → List (List Term)
tuples_of d a goal =
    if length a.params == 0 then [] ∷ []
    else distinct_tuples (tuples_at (patterns d a) (applications goal))

-- ---- of all

-- an assumption, and a term for each of its parameters
pub record Taken : Type 0 where
  pub assumption : AssumeDecl
  pub terms : List Term

abbrev pub taken_of : Design → (goal : Term) → AssumeDecl → List Taken
taken_of d goal a = map (λ ts. record { assumption = a; terms = ts }) (tuples_of d a goal)

-- more are left out
abbrev pub most_instances : ℕ
most_instances = 4096

-- the assumptions of levels 0 to this one in the order of the text, each with its tuples
abbrev pub pattern_tuples : Design → (level : ℕ) → (goal : Term) → List Taken
pattern_tuples d level goal = take most_instances (flat_map (taken_of d goal) (assumptions_to level d))

-- what an assumption says at its terms
abbrev pub instance_term : Design → Taken → Term
instance_term d x = assumption_term d x.assumption x.terms

abbrev pub pattern_terms : Design → (level : ℕ) → (goal : Term) → List Term
pattern_terms d level goal = map (instance_term d) (pattern_tuples d level goal)
