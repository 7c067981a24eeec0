-- Cited by the laws of this crate: how a call ends that has nothing to refuse, and what is said of
-- one obligation.
use Rattle.std.specs.Prelude.{◌≡◌, ℕ, List, Some, codes}
use Rattle.bv_terms.specs.declared.node.Node.{Node}
use Rattle.cert_text.specs.Rechecking.{Tells}
use Rattle.cert_text.specs.declared.fault.CertFault.TheVariants.{Big}
use Rattle.cocoon_io.specs.Calls.{appended, with_file}
use Rattle.cocoon_num.specs.Tree as tree
use Rattle.cocoon_num.specs.declared.limit_name.LimitName.TheVariants.{Clauses}
use Rattle.obligation_gen.specs.Owed.{NeverFailsHere}
use Rattle.obligation_gen.specs.declared.obligation.Obligation.{Obligation}
use Rattle.query_laws.specs.Certified.{HasTooMany}
use Rattle.rounds.specs.Outcomes.{IsAsked}
use Rattle.rounds.specs.declared.outcome.Query.{Query}
use Rattle.verdicts.specs.Deciding.{formula_in}
use Rattle.verdicts.specs.declared.deciding.Verdict.{Verdict}
use Rattle.verdicts.specs.declared.deciding.Verdict.TheVariants as verdict
use Rattle.command_line.specs.Command.{Command}
use Rattle.command_reports.specs.FileNames.{HasName}
use Rattle.command_reports.specs.Report.{refusal_line}
use Rattle.command_reports.specs.declared.files.CommandFile.TheVariants as file
use Rattle.command_reports.specs.declared.refusal.Refusal.{Refusal}
use Rattle.command_reports.specs.declared.refusal.Refusal.TheVariants.{OverLimit}
use Rattle.command_reports.specs.declared.status.Status.TheVariants.{Budget, Done, Limit, NoMemory}
use Rattle.command_answers.specs.Assumed.{IsSpent}
use Rattle.command_answers.specs.Commands.{files_of}
use Rattle.command_answers.specs.Outcomes.{FirstWith, steps}
use Rattle.command_answers.specs.Owing as owing
use Rattle.command_answers.specs.Owing.{IsOpen, spent_line}
use Rattle.command_answers.specs.ReportLines.{budget_line, rounds_line}
use Rattle.command_answers.specs.Steps.{Inputs, IsTooLarge, OfBoth, OfCertified, OfDesign, Step, assumptions_met, certificates_accepted, generated, obligations_hold, of_generated}
use Rattle.cocoon_cli.specs.Run.{Call, DoneOf, InputsAre, SpentOf}

-- ---- of a call

-- a query that the step asks, or that a certificate is for, or the certificates are too large
abbrev pub IsLarge : Inputs → Step → Refusal → Type 0
IsLarge inputs (certificates_accepted out) r =
    OfCertified inputs out (λ design certs. (count : ℕ) × Tells design certs (Big count)
    × (r ≡ OverLimit Clauses count))
IsLarge inputs (of_generated hosts s) r = IsLarge (generated hosts) s r
IsLarge inputs s r = IsTooLarge inputs s r

-- that is so of a step, before which all are good, and it was printed
pub record IsTooLargeAt (c : Command) (call : Call) : Type 0 where
  pub inputs : Inputs
  pub are : InputsAre (files_of c) call.content_before inputs
  pub refusal : Refusal
  pub large : FirstWith inputs (λ s. IsLarge inputs s refusal) (steps c)
  pub line : List ℕ
  pub is : refusal_line (files_of c) refusal ≡ Some line
  pub told : call.output_after ≡ appended call.output_before line

pub data EndsWell (c : Command) (call : Call) : Type 0 where
  -- all that it writes stands, and its whole report was printed
  done : call.status ≡ Done → DoneOf (Some c) call → EndsWell c call
  -- a search was given up, and the file of what it spent stands
  given_up : call.status ≡ Budget → SpentOf (Some c) call → EndsWell c call
  too_large : call.status ≡ Limit → IsTooLargeAt c call → EndsWell c call
  no_memory : call.status ≡ NoMemory → EndsWell c call

-- ---- of a search that is given up

-- a query of the step spent the conflicts: this is its line, and these are the bytes of its file
abbrev pub SpendsConflicts : Inputs → Step → (line bytes : List ℕ) → Type 0
SpendsConflicts inputs (assumptions_met conflicts) line bytes =
    OfBoth inputs (λ design defs. (number : ℕ) × IsSpent design defs conflicts number bytes
    × (line ≡ budget_line conflicts (codes "assumption") number))
SpendsConflicts inputs (obligations_hold conflicts rounds) line bytes =
    OfDesign inputs (λ _ design. (number : ℕ) × (q : Query)
    × owing.IsSpent design conflicts rounds number q bytes
    × (line ≡ spent_line conflicts number q))
SpendsConflicts inputs (of_generated hosts s) line bytes =
    SpendsConflicts (generated hosts) s line bytes
SpendsConflicts inputs s line bytes = ⊥

-- the same of one for an assumption alone
abbrev pub SpendsOnAssumption : Inputs → Step → (line bytes : List ℕ) → Type 0
SpendsOnAssumption inputs (assumptions_met conflicts) line bytes =
    SpendsConflicts inputs (assumptions_met conflicts) line bytes
SpendsOnAssumption inputs s line bytes = ⊥

-- it spent the rounds
abbrev pub SpendsRounds : Inputs → Step → (line bytes : List ℕ) → Type 0
SpendsRounds inputs (obligations_hold conflicts rounds) line bytes =
    OfDesign inputs (λ _ design. (number : ℕ) × IsOpen design rounds number bytes
    × (line ≡ rounds_line rounds number))
SpendsRounds inputs (of_generated hosts s) line bytes =
    SpendsRounds (generated hosts) s line bytes
SpendsRounds inputs s line bytes = ⊥

-- A step spent so before which all are good. Its line was printed, its file stands, and nothing else
-- was touched.
pub record GivenUpBy (Spends : Inputs → Step → (line bytes : List ℕ) → Type 0) (c : Command)
    (call : Call) : Type 0 where
  pub inputs : Inputs
  pub are : InputsAre (files_of c) call.content_before inputs
  pub line : List ℕ
  pub bytes : List ℕ
  pub first : FirstWith inputs (λ s. Spends inputs s line bytes) (steps c)
  pub told : call.output_after ≡ appended call.output_before line
  pub leaves : HasName (files_of c) file.Budget
      (λ name. call.content_after ≡ with_file call.content_before name bytes)

-- ---- of one obligation

-- What a verdict is with enough conflicts and rounds: that the obligation holds exactly if its leaf
-- never fails, or that a query is too large.
abbrev pub IsDecided : tree.Design → List Node → Obligation → (rounds : ℕ) → Verdict → Type 0
IsDecided d nodes o rounds (verdict.Holds cert) = NeverFailsHere d nodes o
IsDecided d nodes o rounds (verdict.Refuted failure) = ¬ NeverFailsHere d nodes o
IsDecided d nodes o rounds (verdict.Over failure) = ¬ NeverFailsHere d nodes o
IsDecided d nodes o rounds (verdict.SpentConflicts query vars log) = ⊥
IsDecided d nodes o rounds (verdict.SpentRounds instances) = ⊥
IsDecided d nodes o rounds (verdict.Big query count) =
    IsAsked d o.level (formula_in nodes o) rounds query (λ goal. HasTooMany goal count)
