-- Cited by the clauses of the laws of this crate and by those of code that decides in rounds: instances that were added one a
-- round, and what may be asked with them.
use Rattle.std.specs.Prelude.{◌≡◌, ◌≢◌, ℕ, ◌*◌, ◌^◌, ◌<◌, ◌≤◌, List, [], ◌∷◌, length, map, slice_get, Some, take}
use Rattle.std.specs.List.{AllByRecursion, sum}
use Rattle.cnf_core.specs.declared.certificates.Instance.{Instance}
use Rattle.cocoon_num.specs.Tree.{AssumeDecl, Design}
use Rattle.cocoon_resolve.specs.Readers.{assumptions_to}
use Rattle.cocoon_types.specs.Design.{widths_of}
use Rattle.bv_terms.specs.TermTrees.{Term}
use Rattle.query_laws.specs.Certified.{AllFit}
use Rattle.query_laws.specs.Queries.{instance_term}
use Rattle.bv_terms.specs.WithRows.{Tables}
use Rattle.query_laws.specs.Candidates.{IsCandidate, IsFalseBy}

-- ---- progress

-- no two of them are equal
abbrev pub AreDifferent : List Instance → Type 0
AreDifferent [] = Unit {0}
AreDifferent (i ∷ is) = AllByRecursion (λ j. i ≢ j) is × AreDifferent is

-- a candidate of the earlier instances under which this one is false
pub record Breaks (d : Design) (level : ℕ) (formula : Term) (earlier : List Instance) (i : Instance) : Type 0 where
  pub tables : Tables
  pub candidate : IsCandidate d level formula earlier tables
  pub false_ : IsFalseBy tables (instance_term d i)

-- instances of assumptions of levels 0 to this one, all different, each of which broke a candidate of those before it
pub record Progress (d : Design) (level : ℕ) (formula : Term) (instances : List Instance) : Type 0 where
  pub fit : AllFit d level instances
  pub different : AreDifferent instances
  pub broke : (j : ℕ) (i : Instance) → slice_get instances j ≡ Some i → Breaks d level formula (take j instances) i

-- ---- what is asked

-- of an obligation with instances, or of an assumption under a candidate of these
pub data Asked : Type 0 where
  of_goal : (instances : List Instance) → Asked
  of_assumption : (number : ℕ) (tables : Tables) (instances : List Instance) → Asked

abbrev pub instances_of : Asked → List Instance
instances_of (of_goal instances) = instances
instances_of (of_assumption i tables instances) = instances

-- so many rounds lead to it
pub record IsWithin (d : Design) (level : ℕ) (formula : Term) (rounds : ℕ) (q : Asked) : Type 0 where
  pub few : length (instances_of q) ≤ rounds
  pub progress : Progress d level formula (instances_of q)

-- an assumption that is asked is one of levels 0 to this one, and its definitions are a candidate
abbrev pub IsOfCandidate : Design → (level : ℕ) → (formula : Term) → Asked → Type 0
IsOfCandidate d level formula (of_goal instances) = Unit {0}
IsOfCandidate d level formula (of_assumption i tables instances) =
    (i < length (assumptions_to level d)) × IsCandidate d level formula instances tables

-- what may be asked
abbrev pub IsAllowed : Design → (level : ℕ) → (formula : Term) → (rounds : ℕ) → Asked → Type 0
IsAllowed d level formula rounds q = IsWithin d level formula rounds q × IsOfCandidate d level formula q

-- ---- how many there can be

-- how many tuples of values an assumption has
abbrev pub tuples_of_widths : List ℕ → ℕ
tuples_of_widths [] = 1
tuples_of_widths (w ∷ ws) = 2 ^ w * tuples_of_widths ws

abbrev pub tuples_of : AssumeDecl → ℕ
tuples_of a = tuples_of_widths (widths_of a.params)

-- and all of levels 0 to this one together
abbrev pub tuples_to : (level : ℕ) → Design → ℕ
tuples_to level d = sum (map tuples_of (assumptions_to level d))
