-- Cited by the clauses of what looks for known clauses whose literals all stand in a step.
use Rattle.std.specs.Prelude.{◌≡◌, ◌≢◌, ℕ, ◌<◌, ℤ, Bool, true, false, IsTrue, IsFalse, List, [], length, slice_index, slice_index_or, Option, Some, None}
use Rattle.std.specs.List.{All}
use Rattle.cnf_core.specs.Licensing.{subsumed_by}
use Rattle.cnf_core.specs.Literals.{has_literal, index_of}
use Rattle.cnf_core.specs.declared.lit.Lit.{Lit}
use Rattle.proof_check.specs.Registering.{Registers, top_index, tops_of}
use Rattle.proof_check.specs.declared.chains.Chains.{Chains}

abbrev pub AllFilled : List (List ℤ) → Type 0
AllFilled clauses = All (λ c. c ≢ []) clauses

-- the top literal of the clause, if it has one
abbrev pub IsTop : List ℤ → Option Lit → Type 0
IsTop clause None = clause ≡ []
IsTop clause (Some lit) = (clause ≢ []) × IsTrue (has_literal clause lit.number) × (top_index clause ≡ index_of lit.number)

-- at true all are registered and none is empty, at false one is empty
abbrev pub RegistersAll : (vars : ℕ) → List (List ℤ) → Chains → Bool → Type 0
RegistersAll vars clauses chains true = Registers vars (tops_of clauses) chains × AllFilled clauses
RegistersAll vars clauses chains false = (j : ℕ) × (j < length clauses) × (slice_index_or clauses j [] ≡ [])

-- at true the clause has all literals of a clause whose top literal has this index, at false of none
abbrev pub SubsumesFrom : (clauses : List (List ℤ)) (trues : List ℤ) (index : ℕ) → Bool → Type 0
SubsumesFrom clauses trues index true = (j : ℕ) × (j < length clauses) × IsTrue (subsumed_by trues (slice_index_or clauses j []))
SubsumesFrom clauses trues index false = (j : ℕ) → j < length clauses → slice_index (tops_of clauses) j ≡ index → IsFalse (subsumed_by trues (slice_index_or clauses j []))

-- at true the clause has all literals of a clause, at false of none
abbrev pub IsSubsumed : (clauses : List (List ℤ)) (clause : List ℤ) → Bool → Type 0
IsSubsumed clauses clause true = (j : ℕ) × (j < length clauses) × IsTrue (subsumed_by clause (slice_index_or clauses j []))
IsSubsumed clauses clause false = All (λ other. IsFalse (subsumed_by clause other)) clauses
