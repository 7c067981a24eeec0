-- Cited by the definition of an assumption's tuples: the applications in an assumption that say at which terms it is taken. It
-- follows the section "Instances" of docs/CLAUSES.md.
use Rattle.std.specs.Prelude.{ℕ, zero, suc, ◌==◌, Bool, false, List, [], ◌∷◌, filter_map, length, if◌then◌else◌, Option, Some, None, option_and_then, option_map}
use Rattle.cocoon_num.specs.Tree.{AssumeDecl, Design}
use Rattle.bv_terms.specs.TermTrees.{Term, Args, input, apply, no_args, arg}
use Rattle.bv_terms.specs.Walks.{applications}
use Rattle.fun_instances.specs.AssumptionTerms.{own_term}

-- an application of a function to exactly the parameters, each once: for each of these the place of its argument
pub record Pattern : Type 0 where
  pub function : ℕ
  pub places : List ℕ

abbrev pub is_input : ℕ → Term → Bool
is_input i (input j w) = i == j
is_input i t = false

-- where among these arguments the input of this number stands first
abbrev pub place_of : ℕ → Args → Option ℕ
place_of i no_args = None
place_of i (arg t ts) = if is_input i t then Some 0 else option_map suc (place_of i ts)

-- the places of so many inputs from this one on, if each is an argument
abbrev pub places_from : (first count : ℕ) → Args → Option (List ℕ)
places_from i zero args = Some []
places_from i (suc n) args =
    option_and_then (λ k. option_map (λ ks. k ∷ ks) (places_from (suc i) n args)) (place_of i args)

abbrev pub arg_count : Args → ℕ
arg_count no_args = 0
arg_count (arg t ts) = suc (arg_count ts)

-- as many arguments as parameters, of which each is one: so each stands once, and nothing else does
abbrev pub pattern_of : (params : ℕ) → Term → Option Pattern
pattern_of n (apply f args w) =
    if arg_count args == n then option_map (λ ks. record { function = f; places = ks }) (places_from 0 n args)
    else None
pattern_of n t = None

-- the patterns of an assumption, whose parameters are inputs, in the order of the walk
abbrev pub patterns : Design → AssumeDecl → List Pattern
patterns d a = filter_map (pattern_of (length a.params)) (applications (own_term d a))
