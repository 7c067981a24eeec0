-- What the top call keeps, put together from what a command does and what is printed.
use Rattle.std.proofs.Common.{◌≡◌, ◌⊎◌, ℕ, ◌+◌, List, [], ◌∷◌, length, take, Option, Some, None, Result, Ok, Err, IfOk, refl, sym, ap, subst, ◌∙◌, inl, inr}
use Rattle.std.specs.Prelude.{codes, option_map}
use Rattle.cocoon_io.specs.Files.{Files}
use Rattle.cocoon_io.specs.Calls.{appended}
use Rattle.net_bundle.specs.Bundle.{MadeFile}
use Rattle.net_bundle.specs.declared.file.BundleFile.{BundleFile}
use Rattle.net_bundle.specs.declared.file.BundleFile.TheVariants as at_file
use Rattle.net_bundle.specs.Writing.{SomeWritten, StopsAt, with_files}
use Rattle.obligation_laws.specs.Obligations.{Kind, contained, bounded}
use Rattle.command_line.specs.Command.{Command}
use Rattle.command_line.specs.Words.{command}
use Rattle.command_reports.specs.FileNames.{HasName, name_of}
use Rattle.command_reports.specs.Report.{Ending, Fault, by_read, by_write, by_memory, no_fault, Puts, all, a_prefix, nothing, Prints, fault_in, fault_of, line_of, line_with, no_memory, status_of, usage, verdict_status}
use Rattle.command_reports.specs.declared.files.CommandFile.{CommandFile}
use Rattle.command_reports.specs.declared.files.CommandFile.TheVariants.{Budget as BudgetFile, Bundle as BundleOf}
use Rattle.command_reports.specs.declared.refusal.Refusal.{Refusal}
use Rattle.command_reports.specs.declared.refusal.Refusal.TheVariants as refusal
use Rattle.command_reports.specs.declared.report.Report.{Report}
use Rattle.command_reports.specs.declared.report.Verdict.{Verdict}
use Rattle.command_reports.specs.declared.report.Verdict.TheVariants as verdict
use Rattle.command_reports.specs.declared.status.Status.{Status}
use Rattle.command_reports.specs.declared.status.Status.TheVariants.{Budget as BudgetSpent, Done, HopBound, Refuted, Usage, ReadFault, WriteFault, NoMemory}
use Rattle.command_answers.specs.Commands.{Reports, files_of}
use Rattle.command_answers.specs.Outcomes.{FirstWith, no_memory as out_of_memory, at_step, at_fault, StopsAt as StopsAtStep, Answers, HasOutcome, steps}
use Rattle.command_answers.specs.FolderCalls.{Counted, CountsFault, Uncounted, Count, NamesFault}
use Rattle.command_answers.specs.Owing.{verdict_of}
use Rattle.command_answers.specs.Steps.{Inputs, Step, generated, of_generated, assumptions_met, obligations_hold, is_there, bundle_reads, bundle_written, certificates_read, wires_read}
use Rattle.command_answers.specs.Writing.{Writing, nothing as nothing_written, bundle, own, SomeOf, StopsIn, with_writing}
use Rattle.cocoon_cli.specs.Leaves.{EndsWriting, IsWhole, IsWritten, Leaves, LeavesAll, LeavesSome, LeavesFault}
use Rattle.cocoon_cli.specs.Run.{Call, Cause, MayCount, of_read, of_write, of_memory, inputs_of, InputsAre, Performs, IsOnly, CauseOf, LineNames, EndsWith, Yields, to_read_fault, to_write_fault, to_no_memory, TheOutcome, OutcomeOf, DoneOf, IsSpentAt, SpentOf, LeavesOf, MayWrite, failed, spent, UsageOf, Keeps, KeepsMore}
use Rattle.cocoon_cli.specs.Run as run
use Rattle.command_answers.proofs.Ending.{first_gives, first_map}
use Rattle.cocoon_cli.proofs.Commands.{report_done, report_writes}
use Rattle.cocoon_cli.proofs.Finding.{IsOfFailure, judges_failure, spends_budget}

-- ---- what is printed

-- with the whole ending, cut off by the sink, or out of memory
data How (call : Call) (e : Ending) : Type 0 where
  whole : EndsWith call e → How call e
  cut : call.status ≡ WriteFault → Counted call.puts → How call e
  lost : call.status ≡ NoMemory → How call e

how : (call : Call) (e : Ending) → Prints (Counted call.puts) e call.output_before call.output_after call.status → How call e
how call e (inl (all s n)) = whole (s, n)
how call e (inl (a_prefix s rose n)) = cut s rose
how call e (inl (nothing s n)) = lost s
how call e (inr (all s n)) = lost s
how call e (inr (a_prefix s rose n)) = cut s rose
how call e (inr (nothing s n)) = lost s

-- a status with which a call ends as its command does
abbrev IsPlain : Status → Type 0
IsPlain WriteFault = ⊥
IsPlain NoMemory = ⊥
IsPlain s = Unit {0}

plain : (call : Call) (e : Ending) (s : Status) → IsPlain s → call.status ≡ s → How call e → EndsWith call e
plain call e s p is (whole w) = w
plain call e s p is (cut c rose) = absurd (subst IsPlain (sym is ∙ c) p)
plain call e s p is (lost c) = absurd (subst IsPlain (sym is ∙ c) p)

-- with that of a write fault it does, or the sink failed
or_sink : (call : Call) (e : Ending) → call.status ≡ WriteFault → How call e → EndsWith call e ⊎ Counted call.puts
or_sink call e is (whole w) = inl w
or_sink call e is (cut c rose) = inr rose
or_sink call e is (lost c) = let no : ◌≡◌ {A = Status} NoMemory WriteFault = sym c ∙ is in cc

-- ---- statuses

-- what the status of an outcome says of it
abbrev Speaks : Status → Result Report Refusal → Type 0
Speaks Usage x = ⊥
Speaks Done x = (report : Report) × (x ≡ Ok report) × (report.verdict ≡ verdict.Done)
Speaks BudgetSpent x = (report : Report) × (x ≡ Ok report) × (report.verdict ≡ verdict.Budget)
Speaks Refuted x = (report : Report) × (x ≡ Ok report) × (report.verdict ≡ verdict.Refuted)
Speaks HopBound x = (report : Report) × (x ≡ Ok report) × (report.verdict ≡ verdict.HopBound)
Speaks ReadFault x = (file : CommandFile) × (x ≡ Err (refusal.ReadFault file))
Speaks WriteFault x = (file : CommandFile) × (x ≡ Err (refusal.WriteFault file))
Speaks s x = Unit {0}

verdict_speaks : (v : Verdict) (report : Report) → report.verdict ≡ v → Speaks (verdict_status v) (Ok report)
verdict_speaks verdict.Done report e = (report, refl, e)
verdict_speaks verdict.Budget report e = (report, refl, e)
verdict_speaks verdict.Refuted report e = (report, refl, e)
verdict_speaks verdict.HopBound report e = (report, refl, e)

speaks : (x : Result Report Refusal) → Speaks (status_of x) x
speaks (Ok report) = verdict_speaks report.verdict report refl
speaks (Err (refusal.ReadFault file)) = (file, refl)
speaks (Err (refusal.WriteFault file)) = (file, refl)
speaks (Err r) = tt

told : (c : Command) (call : Call) (h : Cause c call) (s : Status) → call.status ≡ s → EndsWith call h.ending → Speaks s h.outcome
told c call h s is w = subst (λ (t : Status). Speaks t h.outcome) (sym (w.0 ∙ h.is_ending.status) ∙ is) (speaks h.outcome)

-- a status that is none of a fault of the sink or of memory
plainly : (c : Command) (call : Call) (h : Cause c call) (s : Status) → IsPlain s → call.status ≡ s → Speaks s h.outcome
plainly c call h s p is = told c call h s is (plain call h.ending s p is (how call h.ending h.prints))

-- words that are no command end with no such status but that of the usage line
pub no_command : (call : Call) (s : Status) → IsPlain s → CauseOf None call → call.status ≡ s → s ≡ Usage
no_command call s p h is = sym is ∙ (plain call usage s p is (how call usage h.1)).0

-- ---- the outcome

-- a fault of the folder
abbrev IsFault : Result Report Refusal → Type 0
IsFault x = (file : CommandFile) × ((x ≡ Err (refusal.ReadFault file)) ⊎ (x ≡ Err (refusal.WriteFault file)))

stopped : (i : Inputs) (x : Result Report Refusal) (s : Step) → StopsAtStep i x s → IsFault x
stopped i (Ok report) s h = absurd h
stopped i (Err r) (is_there file) h = (file, inl (ap Err h))
stopped i (Err r) (bundle_reads out) (file, h) = (BundleOf file, inl (ap Err h))
stopped i (Err r) (assumptions_met conflicts) h = (BudgetFile, inr (ap Err h.0))
stopped i (Err r) (obligations_hold conflicts rounds) h = (BudgetFile, inr (ap Err h.0))
stopped i (Err r) (certificates_read out) h = (BundleOf at_file.Certificates, inl (ap Err h))
stopped i (Err r) (wires_read out) h = (BundleOf at_file.Network, inl (ap Err h))
stopped i (Err r) bundle_written (file, h) = (BundleOf file, inr (ap Err h))
stopped i (Err r) (of_generated hosts s) h = stopped (generated hosts) (Err r) s h
stopped i (Err r) s h = absurd h

-- the answer yields to it
fault_yields : (call : Call) (x : Result Report Refusal) → IsFault x → CountsFault call.reads call.writes (fault_in x) → call.status ≡ status_of x → Yields call
fault_yields call x (file, inl e) h s = to_read_fault (s ∙ ap status_of e) (subst (λ (x : Result Report Refusal). CountsFault call.reads call.writes (fault_in x)) e h).0
fault_yields call x (file, inr e) h s = to_write_fault (s ∙ ap status_of e) (inl (subst (λ (x : Result Report Refusal). CountsFault call.reads call.writes (fault_in x)) e h).1)

-- a command has one outcome
abbrev pub OneOutcome : Type 0
OneOutcome = (c : Command) (i : Inputs) (outcome : Result Report Refusal) → HasOutcome c i outcome → IsOnly c i outcome

-- what a command answers is its outcome, or it yields
outcome_or_yields : (c : Command) (i : Inputs) (call : Call) (x : Result Report Refusal) → CountsFault call.reads call.writes (fault_in x) → call.status ≡ status_of x → Answers c i x → HasOutcome c i x ⊎ Yields call
outcome_or_yields c i call x counts s (inl (out_of_memory e)) = inr (to_no_memory (s ∙ ap status_of e))
outcome_or_yields c i call x counts s (inl (at_step h)) = inl (inl h)
outcome_or_yields c i call x counts s (inl (at_fault h)) = inr (fault_yields call x (first_gives i (StopsAtStep i x) (stopped i x) (steps c) h) counts s)
outcome_or_yields c i call x counts s (inr h) = inl (inr h)

outcome_known : OneOutcome → (c : Command) (files : Files) (call : Call) (h : Cause c call) → Performs c (Some files) call.content_after h.outcome → ((f : TheOutcome c files) × EndsWith call f.ending) ⊎ Yields call
outcome_known one c files call h performs = elim (how call h.ending h.prints) [
  | cut s rose ↦ inr (to_write_fault s (inr rose))
  | lost s ↦ inr (to_no_memory s)
  | whole w ↦ elim (outcome_or_yields c performs.inputs call h.outcome h.counts (w.0 ∙ h.is_ending.status) performs.answers) [
    | inr y ↦ inr y
    | inl holds ↦
        let known = inputs_of (files_of c) files in
        let at_files : HasOutcome c known h.outcome = subst (λ (i : Inputs). HasOutcome c i h.outcome) performs.inputs_are holds in
        inl (record { outcome = h.outcome; holds = at_files; one = one c known h.outcome at_files; ending = h.ending; is_ending = h.is_ending }, w)
  ]
]

outcome_of : OneOutcome → (c : Option Command) (call : Call) → CauseOf c call → OutcomeOf c call.content_before call
outcome_of one None call h = elim (how call usage h.1) [
  | whole w ↦ inl w
  | cut s rose ↦ inr (to_write_fault s (inr rose))
  | lost s ↦ inr (to_no_memory s)
]
outcome_of one (Some c) call h = content call.content_before h.performs
  where
    content : (before : Option Files) → Performs c before call.content_after h.outcome → OutcomeOf (Some c) before call
    content None performs = tt
    content (Some files) performs = outcome_known one c files call h performs

-- ---- what follows of each status

usage_of : (c : Option Command) (call : Call) → CauseOf c call → UsageOf c call.status
usage_of None call h = elim (how call usage h.1) [
  | whole w ↦ inl w.0
  | cut s rose ↦ inr (inl s)
  | lost s ↦ inr (inr s)
]
usage_of (Some c) call h = λ u. plainly c call h Usage tt u

read_fault_of : (c : Option Command) (call : Call) → CauseOf c call → call.status ≡ ReadFault → Counted call.reads
read_fault_of None call h r = let no : ◌≡◌ {A = Status} ReadFault Usage = no_command call ReadFault tt h r in cc
read_fault_of (Some c) call h r = (subst (λ (x : Result Report Refusal). CountsFault call.reads call.writes (fault_in x)) (plainly c call h ReadFault tt r).1 h.counts).0

write_fault_of : (c : Option Command) (call : Call) → CauseOf c call → call.status ≡ WriteFault → Counted call.writes ⊎ Counted call.puts
write_fault_of None call h w = elim (or_sink call usage w (how call usage h.1)) [
  | inl e ↦ let no : ◌≡◌ {A = Status} WriteFault Usage = sym w ∙ e.0 in cc
  | inr rose ↦ inr rose
]
write_fault_of (Some c) call h w = elim (or_sink call h.ending w (how call h.ending h.prints)) [
  | inl e ↦ inl (subst (λ (x : Result Report Refusal). CountsFault call.reads call.writes (fault_in x)) (told c call h WriteFault w e).1 h.counts).1
  | inr rose ↦ inr rose
]

-- the status is that of a fault of the folder, or none was counted
none_or_fault : (reads writes : Count) (x : Result Report Refusal) → CountsFault reads writes (fault_in x) → MayCount (status_of x) ⊎ (Uncounted reads × Uncounted writes)
none_or_fault reads writes (Ok report) h = inr h
none_or_fault reads writes (Err (refusal.ReadFault file)) h = inl (of_read refl)
none_or_fault reads writes (Err (refusal.WriteFault file)) h = inl (of_write refl)
none_or_fault reads writes (Err r) h = inr h

none_failed_of : (c : Option Command) (call : Call) → CauseOf c call → MayCount call.status ⊎ (Uncounted call.reads × Uncounted call.writes)
none_failed_of None call h = inr (h.0.1, h.0.2)
none_failed_of (Some c) call h = elim (how call h.ending h.prints) [
  | cut s rose ↦ inl (of_write s)
  | lost s ↦ inl (of_memory s)
  | whole w ↦ elim (none_or_fault call.reads call.writes h.outcome h.counts) [
    | inl m ↦ inl (subst MayCount (sym (w.0 ∙ h.is_ending.status)) m)
    | inr n ↦ inr n
  ]
]

-- ---- which file the line of a fault names

-- what a command that has the cause of a call says of the folder's last call that failed
abbrev pub NamedOf : (List ℕ → Type 0) → (c : Option Command) → (call : Call) → CauseOf c call → Type 0
NamedOf last None call h = Unit {0}
NamedOf last (Some c) call h = NamesFault last (files_of c) (fault_in h.outcome)

same_line : (o : Option (List ℕ)) (x y : List ℕ) → o ≡ Some x → o ≡ Some y → x ≡ y
same_line o x y p q = let e : ◌≡◌ {A = Option (List ℕ)} (Some x) (Some y) = sym p ∙ q in cc

named_line : (last : List ℕ → Type 0) (c : Command) (call : Call) (prefix : List ℕ) (file : CommandFile) (report : List ℕ) → HasName (files_of c) file last
    → option_map (line_with prefix) (name_of (files_of c) file) ≡ Some report → call.output_after ≡ appended call.output_before report → LineNames last prefix (Some c) call
named_line last c call prefix file report (name, is, named) line out =
    (file, (name, is, (named, out ∙ ap (appended call.output_before) (same_line _ report (line_with prefix name) line (ap (option_map (line_with prefix)) is)))))

read_line_of : (last : List ℕ → Type 0) (c : Option Command) (call : Call) (h : CauseOf c call) → NamedOf last c call h → call.status ≡ ReadFault → LineNames last (codes "read fault ") c call
read_line_of last None call h k r = let no : ◌≡◌ {A = Status} ReadFault Usage = no_command call ReadFault tt h r in cc
read_line_of last (Some c) call h k r =
    let w = plain call h.ending ReadFault tt r (how call h.ending h.prints) in
    let f = told c call h ReadFault r w in
    named_line last c call (codes "read fault ") f.0 h.ending.report (subst (λ (x : Result Report Refusal). NamesFault last (files_of c) (fault_in x)) f.1 k)
    (subst (λ (x : Result Report Refusal). line_of (files_of c) x ≡ Some h.ending.report) f.1 h.is_ending.line) w.1

write_line_of : (last : List ℕ → Type 0) (c : Option Command) (call : Call) (h : CauseOf c call) → NamedOf last c call h → call.status ≡ WriteFault → LineNames last (codes "write fault ") c call ⊎ Counted call.puts
write_line_of last None call h k w = elim (or_sink call usage w (how call usage h.1)) [
  | inl e ↦ let no : ◌≡◌ {A = Status} WriteFault Usage = sym w ∙ e.0 in cc
  | inr rose ↦ inr rose
]
write_line_of last (Some c) call h k w = elim (or_sink call h.ending w (how call h.ending h.prints)) [
  | inl e ↦
      let f = told c call h WriteFault w e in
      inl (named_line last c call (codes "write fault ") f.0 h.ending.report (subst (λ (x : Result Report Refusal). NamesFault last (files_of c) (fault_in x)) f.1 k)
      (subst (λ (x : Result Report Refusal). line_of (files_of c) x ≡ Some h.ending.report) f.1 h.is_ending.line) e.1)
  | inr rose ↦ inr rose
]

-- ---- what is left

-- with a success all steps are good
not_done : (c : Command) (i : Inputs) (report : Report) (w : Writing) → report.verdict ≡ verdict.Done → (s : Step) → EndsWriting (files_of c) i report w s → ⊥
not_done c i report w done s (inl h) = subst IsOfFailure done (judges_failure i s report h.0)
not_done c i report w done s (inr h) = let no : ◌≡◌ {A = Verdict} verdict.Done verdict.Budget = sym done ∙ spends_budget i s report h.0 h.1 in cc

whole_of : (c : Command) (i : Inputs) (report : Report) (w : Writing) → report.verdict ≡ verdict.Done → IsWritten c i report w → IsWhole c i w × Reports c i report
whole_of c i report w done (inl h) = h
whole_of c i report w done (inr h) = absurd (first_gives i (EndsWriting (files_of c) i report w) (not_done c i report w done) (steps c) h)

printed : (c : Command) (call : Call) (report : Report) (line : List ℕ) → line_of (files_of c) (Ok report) ≡ Some line → call.output_after ≡ appended call.output_before line → call.output_after ≡ appended call.output_before report.lines
printed c call report line is out = out ∙ ap (appended call.output_before) (same_line _ line report.lines is refl)

done_by : (c : Command) (call : Call) (report : Report) (line : List ℕ) → report.verdict ≡ verdict.Done → Performs c call.content_before call.content_after (Ok report) → line_of (files_of c) (Ok report) ≡ Some line
    → call.output_after ≡ appended call.output_before line → DoneOf (Some c) call
done_by c call report line done p is out =
    let (w, written, stands) = p.leaves in
    let kept = whole_of c p.inputs report w done written in
    (p.inputs, report, p.inputs_are, kept.1, (w, kept.0, stands), printed c call report line is out)

-- with a search that was given up the file of that stands
spent_at : (c : Command) (i : Inputs) (report : Report) (w : Writing) (before after : Option Files) → report.verdict ≡ verdict.Budget → after ≡ with_writing w before → (s : Step) → EndsWriting (files_of c) i report w s → IsSpentAt c i report before after s
spent_at c i report w before after budget stands s (inl h) = absurd (subst IsOfFailure budget (judges_failure i s report h.0))
spent_at c i report w before after budget stands s (inr h) =
    let (bytes, spends, (name, is, writes)) = h in
    record { bytes = bytes; spends = spends; leaves = (name, is, stands ∙ ap (λ (x : Writing). with_writing x before) writes) }

spent_of : (c : Command) (i : Inputs) (report : Report) (w : Writing) (before after : Option Files) → report.verdict ≡ verdict.Budget → after ≡ with_writing w before → IsWritten c i report w → FirstWith i (IsSpentAt c i report before after) (steps c)
spent_of c i report w before after budget stands (inl h) = absurd (let no : ◌≡◌ {A = Verdict} verdict.Budget verdict.Done = sym budget ∙ report_done c i report h.1 in cc)
spent_of c i report w before after budget stands (inr h) =
    first_map i (EndsWriting (files_of c) i report w) (IsSpentAt c i report before after) (spent_at c i report w before after budget stands) (steps c) h

spent_by : (c : Command) (call : Call) (report : Report) (line : List ℕ) → report.verdict ≡ verdict.Budget → Performs c call.content_before call.content_after (Ok report) → line_of (files_of c) (Ok report) ≡ Some line
    → call.output_after ≡ appended call.output_before line → SpentOf (Some c) call
spent_by c call report line budget p is out =
    let (w, written, stands) = p.leaves in
    (p.inputs, report, p.inputs_are, spent_of c p.inputs report w call.content_before call.content_after budget stands written, printed c call report line is out)

pub success_of : (c : Option Command) (call : Call) → CauseOf c call → call.status ≡ Done → DoneOf c call
success_of None call h d = let no : ◌≡◌ {A = Status} Done Usage = no_command call Done tt h d in cc
success_of (Some c) call h d =
    let w = plain call h.ending Done tt d (how call h.ending h.prints) in
    let f = told c call h Done d w in
    done_by c call f.0 h.ending.report f.2 (subst (λ (x : Result Report Refusal). Performs c call.content_before call.content_after x) f.1 h.performs)
    (subst (λ (x : Result Report Refusal). line_of (files_of c) x ≡ Some h.ending.report) f.1 h.is_ending.line) w.1

spends_of : (c : Option Command) (call : Call) → CauseOf c call → call.status ≡ BudgetSpent → SpentOf c call
spends_of None call h b = let no : ◌≡◌ {A = Status} BudgetSpent Usage = no_command call BudgetSpent tt h b in cc
spends_of (Some c) call h b =
    let w = plain call h.ending BudgetSpent tt b (how call h.ending h.prints) in
    let f = told c call h BudgetSpent b w in
    spent_by c call f.0 h.ending.report f.2 (subst (λ (x : Result Report Refusal). Performs c call.content_before call.content_after x) f.1 h.performs)
    (subst (λ (x : Result Report Refusal). line_of (files_of c) x ≡ Some h.ending.report) f.1 h.is_ending.line) w.1

-- with a failure its whole report is printed
report_told : (c : Command) (call : Call) (h : Cause c call) (s : Status) (v : Verdict) → IsPlain s → call.status ≡ s → (f : (report : Report) × (h.outcome ≡ Ok report) × (report.verdict ≡ v))
    → (report : Report) × (h.outcome ≡ Ok report) × (report.verdict ≡ v) × (call.output_after ≡ appended call.output_before report.lines)
report_told c call h s v p is f =
    let w = plain call h.ending s p is (how call h.ending h.prints) in
    (f.0, f.1, f.2, printed c call f.0 h.ending.report (subst (λ (x : Result Report Refusal). line_of (files_of c) x ≡ Some h.ending.report) f.1 h.is_ending.line) w.1)

pub failure_told : (c : Command) (call : Call) (h : Cause c call) (k : Kind) → call.status ≡ verdict_status (verdict_of k)
    → (report : Report) × (h.outcome ≡ Ok report) × (report.verdict ≡ verdict_of k) × (call.output_after ≡ appended call.output_before report.lines)
failure_told c call h contained s = report_told c call h Refuted verdict.Refuted tt s (plainly c call h Refuted tt s)
failure_told c call h bounded s = report_told c call h HopBound verdict.HopBound tt s (plainly c call h HopBound tt s)

-- what stands where all is written, or stops within it, is a part of it
take_all : (fs : List MadeFile) → take (length fs) fs ≡ fs
take_all [] = refl
take_all (f ∷ fs) = ap (λ gs. f ∷ gs) (take_all fs)

stopped_some : (o : List ℕ) (fs : List MadeFile) (file : BundleFile) (before after : Option Files) → StopsAt o fs file before after → SomeWritten o fs before after
stopped_some o fs file before after h = elim h.left [
  | inl e ↦ (h.index, e)
  | inr e ↦ (h.index + 1, e)
]

all_some : (w : Writing) (before after : Option Files) → after ≡ with_writing w before → SomeOf w before after
all_some nothing_written before after e = e
all_some (bundle o fs) before after e = (length fs, e ∙ ap (λ gs. with_files o gs before) (sym (take_all fs)))
all_some (own file name bytes) before after e = inr e

stops_some : (w : Writing) (file : CommandFile) (before after : Option Files) → StopsIn w file before after → SomeOf w before after
stops_some nothing_written file before after h = absurd h
stops_some (bundle o fs) (BundleOf file) before after h = stopped_some o fs file before after h
stops_some (bundle o fs) file before after h = absurd h
stops_some (own f name bytes) file before after h = h.1

leaves_fault : (c : Command) (i : Inputs) (before after : Option Files) (f : Fault) → LeavesFault c i before after f → LeavesSome c i before after
leaves_fault c i before after (by_read file) h = inl h
leaves_fault c i before after (by_write file) (report, w, may, h) = inr (report, w, may, stops_some w file before after h)
leaves_fault c i before after by_memory h = h
leaves_fault c i before after no_fault h = inl h

leaves_some : (c : Command) (i : Inputs) (before after : Option Files) (outcome : Result Report Refusal) → Leaves c i before after outcome → LeavesSome c i before after
leaves_some c i before after (Ok report) (w, may, h) = inr (report, w, may, all_some w before after h)
leaves_some c i before after (Err r) h = leaves_fault c i before after (fault_of r) h

leaves_of : (c : Option Command) (call : Call) → CauseOf c call → LeavesOf c call
leaves_of None call h = h.0.0
leaves_of (Some c) call h = (h.performs.inputs, h.performs.inputs_are, leaves_some c h.performs.inputs call.content_before call.content_after h.outcome h.performs.leaves)

-- what is written with a step that ends a command
found_writes : (c : Command) (i : Inputs) (report : Report) (w : Writing) (before after : Option Files) → after ≡ with_writing w before → (s : Step) → EndsWriting (files_of c) i report w s → MayWrite (verdict_status report.verdict) ⊎ (after ≡ before)
found_writes c i report w before after stands s (inl h) = inr (stands ∙ ap (λ (x : Writing). with_writing x before) h.1)
found_writes c i report w before after stands s (inr h) = inl (spent (ap verdict_status (spends_budget i s report h.0 h.1)))

writes_or_same : (c : Command) (i : Inputs) (before after : Option Files) (report : Report) → LeavesAll c i report before after → MayWrite (verdict_status report.verdict) ⊎ (after ≡ before)
writes_or_same c i before after report (w, inl (are_good, reports), stands) = report_writes c i before after report reports (w, are_good, stands)
writes_or_same c i before after report (w, inr h, stands) = first_gives i (EndsWriting (files_of c) i report w) (found_writes c i report w before after stands) (steps c) h

-- nothing was written, or the status may have another folder
same_or_writes : (c : Command) (before after : Option Files) (x : Result Report Refusal) → Performs c before after x → MayWrite (status_of x) ⊎ (after ≡ before)
same_or_writes c before after (Ok report) p = writes_or_same c p.inputs before after report p.leaves
same_or_writes c before after (Err (refusal.WriteFault file)) p = inl (failed refl)
same_or_writes c before after (Err refusal.NoMemory) p = inl (run.no_memory refl)
same_or_writes c before after (Err r) p = inr p.leaves

same_of : (c : Option Command) (call : Call) → CauseOf c call → MayWrite call.status ⊎ (call.content_after ≡ call.content_before)
same_of None call h = inr h.0.0
same_of (Some c) call h = elim (how call h.ending h.prints) [
  | cut s rose ↦ inl (failed s)
  | lost s ↦ inl (run.no_memory s)
  | whole w ↦ elim (same_or_writes c call.content_before call.content_after h.outcome h.performs) [
    | inl m ↦ inl (subst MayWrite (sym (w.0 ∙ h.is_ending.status)) m)
    | inr s ↦ inr s
  ]
]

-- ---- out of memory while the words are read

abbrev any_inputs : Command → Option Files → Inputs
any_inputs c None = record { file = λ file. None; content = None }
any_inputs c (Some files) = inputs_of (files_of c) files

any_are : (c : Command) (content : Option Files) → InputsAre (files_of c) content (any_inputs c content)
any_are c None = tt
any_are c (Some files) = refl

memory_cause : (last : List ℕ → Type 0) (c : Option Command) (call : Call) → call.content_after ≡ call.content_before → Uncounted call.reads → Uncounted call.writes → Puts (Counted call.puts) no_memory call.output_before call.output_after call.status → (h : CauseOf c call) × NamedOf last c call h
memory_cause last None call same r w p = (((same, r, w), inr p), tt)
memory_cause last (Some c) call same r w p = (
  record {
    outcome = Err refusal.NoMemory;
    performs = record {
      inputs = any_inputs c call.content_before;
      inputs_are = any_are c call.content_before;
      answers = inl (out_of_memory refl);
      leaves = inl same;
    };
    counts = (r, w);
    ending = no_memory;
    is_ending = record { status = refl; line = refl };
    prints = inr p;
  },
  tt,
)

-- ---- all of it

keeps : OneOutcome → (last : List ℕ → Type 0) (call : Call) (h : CauseOf (command call.words) call) → NamedOf last (command call.words) call h → Keeps last call
keeps one last call h k = record {
  cause = h;
  outcome = outcome_of one (command call.words) call h;
  leaves = leaves_of (command call.words) call h;
  read_fault_line = read_line_of last (command call.words) call h k;
  write_fault_line = write_line_of last (command call.words) call h k;
}

-- what follows from the cause
pub keeps_more : (call : Call) → CauseOf (command call.words) call → KeepsMore call
keeps_more call h = record {
  usage = usage_of (command call.words) call h;
  read_fault = read_fault_of (command call.words) call h;
  write_fault = write_fault_of (command call.words) call h;
  none_failed = none_failed_of (command call.words) call h;
  done_leaves = success_of (command call.words) call h;
  spent_leaves = spends_of (command call.words) call h;
  unchanged = same_of (command call.words) call h;
}

-- the same of the command that was read of the words
pub keeps_of : OneOutcome → (last : List ℕ → Type 0) (c : Option Command) (call : Call) → c ≡ command call.words → (h : CauseOf c call) → NamedOf last c call h → Keeps last call
keeps_of one last c call e h k =
    let p = subst (λ (d : Option Command). (h : CauseOf d call) × NamedOf last d call h) e (h, k) in
    keeps one last call p.0 p.1

pub keeps_memory : OneOutcome → (last : List ℕ → Type 0) (call : Call) → call.content_after ≡ call.content_before → Uncounted call.reads → Uncounted call.writes
    → Puts (Counted call.puts) no_memory call.output_before call.output_after call.status → Keeps last call
keeps_memory one last call same r w p =
    let m = memory_cause last (command call.words) call same r w p in
    keeps one last call m.0 m.1

-- what is said of a command that reported: status 0 comes of no other
pub said_of : (P : Option Command → Type 0) (c : Command) (o : Option Command) (call : Call) (h : Cause c call) → Some c ≡ o → IfOk h.outcome (λ r. r.verdict ≡ verdict.Done → P (Some c)) → call.status ≡ Done → P o
said_of P c o call h e said d =
    let f = plainly c call h Done tt d in
    subst P e (subst (λ (x : Result Report Refusal). IfOk x (λ r. r.verdict ≡ verdict.Done → P (Some c))) f.1 said f.2)
