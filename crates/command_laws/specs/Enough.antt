-- Cited by the laws of this crate: that as many conflicts and rounds are allowed as searches can
-- need.
use Rattle.std.specs.Prelude.{◌≡◌, ◌<◌, ◌≤◌, ◌^◌, ℕ, List, All, Some}
use Rattle.std.specs.List.{AllByRecursion}
use Rattle.bit_blast.specs.Clauses.{vars_of}
use Rattle.bv_terms.specs.TermTrees.{Term}
use Rattle.query_laws.specs.Rounds.{IsAllowed, tuples_to}
use Rattle.cocoon_num.specs.Reads.{Reads, ReadsDefs}
use Rattle.cocoon_num.specs.Tree as tree
use Rattle.cocoon_resolve.specs.Readers.{all_assumptions}
use Rattle.cocoon_types.specs.Design.{last_level}
use Rattle.discharge.specs.Queries.{assumption_query}
use Rattle.lower_p4.specs.Lowering.{AreOfText}
use Rattle.obligation_laws.specs.Obligations.{all_obligations}
use Rattle.rounds.specs.Outcomes.{OfQuery, asked_of}
use Rattle.rounds.specs.declared.outcome.Query.{Query}
use Rattle.runtime_defs.specs.Places.{Places}
use Rattle.command_line.specs.Command.{Command}
use Rattle.command_reports.specs.declared.files.CommandFile.TheVariants.{Definitions, Design}
use Rattle.command_answers.specs.Commands.{files_of}
use Rattle.command_answers.specs.Outcomes.{steps}
use Rattle.command_answers.specs.Steps.{Inputs, Step, assumptions_met, generated, obligations_hold, of_generated}
use Rattle.cocoon_cli.specs.Run.{Call, InputsAre}

-- ---- conflicts

-- There are as many as clauses without repeated or opposite literals over the variables of the
-- goal, the empty one among them.
abbrev pub IsEnough : Term → (conflicts : ℕ) → Type 0
IsEnough goal conflicts = 3 ^ vars_of goal ≤ conflicts

-- so many for each query that may be asked of a formula in so many rounds
abbrev pub AreEnoughOn : tree.Design → (level : ℕ) → (formula : Term) → (conflicts rounds : ℕ)
    → Type 0
AreEnoughOn d level formula conflicts rounds =
    (q : Query) → IsAllowed d level formula rounds (asked_of q)
    → OfQuery d level formula q (λ goal. IsEnough goal conflicts)

-- and of what a design owes
abbrev pub AreEnoughOwed : tree.Design → (conflicts rounds : ℕ) → Type 0
AreEnoughOwed d conflicts rounds =
    All (λ o. AreEnoughOn d o.level o.formula conflicts rounds) (all_obligations d)

-- so many for each query that is asked of its assumptions under definitions
abbrev pub AreEnoughAssumed : tree.Design → tree.DefsText → (conflicts : ℕ) → Type 0
AreEnoughAssumed d es conflicts =
    (tables : Places) → AreOfText d es tables
    → All (λ a. IsEnough (assumption_query d a tables) conflicts) (all_assumptions d)

-- ---- rounds

-- There are more than pairs of an assumption and values of its parameters.
abbrev pub AreMany : tree.Design → (rounds : ℕ) → Type 0
AreMany d rounds = tuples_to (last_level d) d < rounds

-- ---- of a command

-- this holds of the design, whatever is read of it
abbrev pub ForDesign : Inputs → (tree.Design → Type 0) → Type 0
ForDesign inputs Holds =
    (text : List ℕ) (d : tree.Design) → inputs.file Design ≡ Some text → Reads text d → Holds d

abbrev pub ForDefinitions : Inputs → (tree.DefsText → Type 0) → Type 0
ForDefinitions inputs Holds =
    (text : List ℕ) (es : tree.DefsText) → inputs.file Definitions ≡ Some text
    → ReadsDefs text es → Holds es

-- the conflicts are enough for each query that the step may ask
abbrev pub HasConflicts : Inputs → Step → Type 0
HasConflicts inputs (assumptions_met conflicts) =
    ForDesign inputs (λ d. ForDefinitions inputs (λ es. AreEnoughAssumed d es conflicts))
HasConflicts inputs (obligations_hold conflicts rounds) =
    ForDesign inputs (λ d. AreEnoughOwed d conflicts rounds)
HasConflicts inputs (of_generated hosts s) = HasConflicts (generated hosts) s
HasConflicts inputs s = Unit {0}

-- the rounds are enough
abbrev pub HasRounds : Inputs → Step → Type 0
HasRounds inputs (obligations_hold conflicts rounds) = ForDesign inputs (λ d. AreMany d rounds)
HasRounds inputs (of_generated hosts s) = HasRounds (generated hosts) s
HasRounds inputs s = Unit {0}

-- this holds of each step of a command, whatever is read of its files
abbrev pub ForSteps : (Inputs → Step → Type 0) → Command → Call → Type 0
ForSteps Has c call =
    (inputs : Inputs) → InputsAre (files_of c) call.content_before inputs
    → AllByRecursion (Has inputs) (steps c)

abbrev pub AreEnoughConflicts : Command → Call → Type 0
AreEnoughConflicts c call = ForSteps HasConflicts c call

abbrev pub AreEnoughRounds : Command → Call → Type 0
AreEnoughRounds c call = ForSteps HasRounds c call
