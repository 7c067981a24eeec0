-- Cited by the clauses of `meets` and `meets_to`: when each answer comes.
use Rattle.std.specs.Prelude.{◌≡◌, ℕ, ◌<◌, length}
use Rattle.cnf_core.specs.Licensing.{Licensed}
use Rattle.cnf_core.specs.declared.clauses.Cnf.{Cnf}
use Rattle.cnf_core.specs.declared.log.Log.{Log}
use Rattle.cocoon_num.specs.Tree.{Design}
use Rattle.cocoon_resolve.specs.Readers.{assumptions_to}
use Rattle.cocoon_types.specs.Design.{last_level}
use Rattle.bit_blast.specs.Blasting.{IsClauses, most_clauses}
use Rattle.bit_blast.specs.Clauses.{count_of, vars_of}
use Rattle.bv_terms.specs.TermTrees.{Term}
use Rattle.refinement.specs.Assumptions.{Meets}
use Rattle.bv_terms.specs.WithRows.{Tables}
use Rattle.discharge.specs.Meeting.{IsFalseAt, IsTold, OfTables}
use Rattle.discharge.specs.Queries.{assumption_query}
use Rattle.discharge.specs.declared.meeting.Met.{Met}
use Rattle.discharge.specs.declared.meeting.Met.TheVariants.{Yes, Broken, SpentConflicts, Big}

-- ---- of a goal

-- the goal has so many variables, and its clauses license the log of so many steps
pub record IsSpentOn (goal : Term) (conflicts vars : ℕ) (log : Log) : Type 0 where
  pub vars_are : vars ≡ vars_of goal
  pub cnf : Cnf
  pub clauses_are : IsClauses cnf goal
  pub licensed : Licensed cnf log conflicts

-- the goal has so many clauses, which are too many
pub record IsTooBig (goal : Term) (count : ℕ) : Type 0 where
  pub count_is : count ≡ count_of goal
  pub too_many : most_clauses < count

-- ---- of definitions

-- yes only if all assumptions are met; any other answer only if those before the one it tells of are, and of that one
abbrev pub Answers : Design → Tables → (conflicts : ℕ) → Met → Type 0
-- the definitions meet it at every level
Answers d tables conflicts Yes = OfTables d tables (Meets (last_level d) d)
-- it is false at the values
Answers d tables conflicts (Broken i values) =
    IsTold d tables i (λ a. OfTables d tables (λ defs. IsFalseAt d defs a values))
-- its query spent the conflicts
Answers d tables conflicts (SpentConflicts i vars log) =
    IsTold d tables i (λ a. IsSpentOn (assumption_query d a tables) conflicts vars log)
-- its query is too large
Answers d tables conflicts (Big i count) =
    IsTold d tables i (λ a. IsTooBig (assumption_query d a tables) count)

-- ---- up to a level

-- the assumption that is told of is one of levels 0 to this one
abbrev pub IsAmong : Design → (level : ℕ) → Met → Type 0
IsAmong d level Yes = Unit {0}
IsAmong d level (Broken i values) = i < length (assumptions_to level d)
IsAmong d level (SpentConflicts i vars log) = i < length (assumptions_to level d)
IsAmong d level (Big i count) = i < length (assumptions_to level d)

-- the same where no others are asked: yes, only if all of these levels are met
abbrev pub AnswersTo : Design → (level : ℕ) → Tables → (conflicts : ℕ) → Met → Type 0
AnswersTo d level tables conflicts Yes = OfTables d tables (Meets level d)
AnswersTo d level tables conflicts met = IsAmong d level met × Answers d tables conflicts met
