-- Where a command reports that a design does not keep what it owes, it prints a failure of the design of its file.
use Rattle.std.proofs.Common.{◌≡◌, ◌||◌, ℕ, Bool, true, false, List, [], ◌∷◌, Option, Some, None, Result, Ok, Err, refl, sym, ap, subst, ◌∙◌, inl, inr}
use Rattle.std.specs.FinMap.{get}
use Rattle.std.specs.Prelude.{option_and_then}
use Rattle.cocoon_io.specs.Calls.{appended}
use Rattle.cocoon_io.specs.Files.{Files}
use Rattle.cocoon_num.specs.Reads.{Reads}
use Rattle.cocoon_types.specs.Rules.{WellFormed}
use Rattle.failures.specs.Told.{Tells}
use Rattle.obligation_laws.specs.Obligations.{Kind, contained, bounded}
use Rattle.command_line.specs.Command.{Command, check, compile, update, step, forward, gen}
use Rattle.command_reports.specs.FileNames.{name_of}
use Rattle.command_reports.specs.declared.files.CommandFile.TheVariants.{Design}
use Rattle.command_reports.specs.Report.{verdict_status}
use Rattle.command_reports.specs.declared.refusal.Refusal.{Refusal}
use Rattle.command_reports.specs.declared.refusal.Refusal.TheVariants as refusal
use Rattle.command_reports.specs.declared.report.Report.{Report}
use Rattle.command_reports.specs.declared.report.Verdict.{Verdict}
use Rattle.command_reports.specs.declared.report.Verdict.TheVariants as verdict
use Rattle.command_reports.specs.declared.status.Status.{Status}
use Rattle.command_reports.specs.declared.status.Status.TheVariants.{HopBound, Refuted, Usage}
use Rattle.command_answers.specs.Commands.{files_of}
use Rattle.command_answers.specs.Outcomes.{Answers, EndsAt, FirstWith, here, later, StopsAt, no_memory, at_step, at_fault, steps}
use Rattle.command_answers.specs.Owing.{IsFailing, verdict_of, word_of}
use Rattle.command_answers.specs.Steps.{Inputs, IsGood, Judges, OfDesign, Step, generated, generated_design, obligations_hold, of_generated}
use Rattle.cocoon_cli.specs.Failed.{Failed, FailedFile, FailedOf}
use Rattle.cocoon_cli.specs.Run.{Call, CauseOf, InputsAre, Performs}
use Rattle.command_answers.proofs.Ending.{first_gives, first_map}
use Rattle.cocoon_cli.proofs.Commands.{report_done}
use Rattle.cocoon_cli.proofs.Finding.{spends_budget}
use Rattle.cocoon_cli.proofs.OneStep.{same_some}
use Rattle.cocoon_cli.proofs.Refined.{OneTree}
use Rattle.cocoon_cli.proofs.Running.{failure_told, no_command}

-- ---- steps with verdicts

abbrev is_judging : Step → Bool
is_judging (obligations_hold n m) = true
is_judging (of_generated hosts s) = is_judging s
is_judging s = false

abbrev is_any_judging : List Step → Bool
is_any_judging [] = false
is_any_judging (s ∷ ss) = is_judging s || is_any_judging ss

judges : (i : Inputs) (report : Report) (s : Step) (b : Bool) → Judges i s report → (is_judging s || b) ≡ true
judges i report (obligations_hold n m) b h = refl
judges i report (of_generated hosts s) b h = judges (generated hosts) report s b h
judges i report s b h = absurd h

or_second : (a b : Bool) → b ≡ true → (a || b) ≡ true
or_second true b e = refl
or_second false b e = e

-- one of these steps gives one
judged_any : (i : Inputs) (report : Report) (ss : List Step) → FirstWith i (λ s. Judges i s report) ss → is_any_judging ss ≡ true
judged_any i report [] h = elim h [ ]
judged_any i report (s ∷ ss) (here h) = judges i report s (is_any_judging ss) h
judged_any i report (s ∷ ss) (later g h) = or_second (is_judging s) (is_any_judging ss) (judged_any i report ss h)

-- a step before which all are good
passed : (i : Inputs) (report : Report) (s : Step) (ss : List Step) → FirstWith i (λ s. Judges i s report) (s ∷ ss) → (Judges i s report → ⊥) → IsGood i s × FirstWith i (λ s. Judges i s report) ss
passed i report s ss (here h) never = absurd (never h)
passed i report s ss (later g h) never = (g, h)

-- and the step that gives it
reached : (i : Inputs) (report : Report) (s : Step) (ss : List Step) → FirstWith i (λ s. Judges i s report) (s ∷ ss) → is_any_judging ss ≡ false → Judges i s report
reached i report s ss (here h) unjudged = h
reached i report s ss (later g h) unjudged = let both : true ≡ false = sym (judged_any i report ss h) ∙ unjudged in absurd cc

-- ---- what is printed

same_kind : (x y : Kind) → verdict_of x ≡ verdict_of y → x ≡ y
same_kind contained contained e = refl
same_kind contained bounded e = cc
same_kind bounded contained e = cc
same_kind bounded bounded e = refl

failed_text : OneTree → (i : Inputs) (kind : Kind) (report : Report) → report.verdict ≡ verdict_of kind → OfDesign i (λ _ d. WellFormed d) → (r : OfDesign i (λ _ d. (number : ℕ) × IsFailing d number report)) → Failed r.text kind report.lines
failed_text one i kind report v w r =
    let same = same_some (i.file Design) w.text r.text w.is r.is in
    let design = one r.text w.design r.design (subst (λ (t : List ℕ). Reads t w.design) same w.reads) r.reads in
    let h = r.holds.1 in
    let k = same_kind h.obligation.kind kind (sym h.says.verdict_ ∙ v) in
    record {
      design = r.design;
      reads = r.reads;
      well_formed = subst WellFormed design w.holds;
      number = r.holds.0;
      obligation = h.obligation;
      is = h.is;
      kind_ = k;
      earlier = h.earlier;
      failure = h.says.failure;
      fails = h.says.fails;
      told = subst (λ (x : Kind). Tells r.design (word_of x) h.obligation.level h.obligation.number h.says.failure report.lines) k h.says.lines_;
    }

failed_file : OneTree → (c : Command) (name : List ℕ) (content : Option Files) (i : Inputs) (kind : Kind) (report : Report) → InputsAre (files_of c) content i → name_of (files_of c) Design ≡ Some name → report.verdict ≡ verdict_of kind
    → OfDesign i (λ _ d. WellFormed d) → OfDesign i (λ _ d. (number : ℕ) × IsFailing d number report) → FailedFile name content kind report.lines
failed_file one c name None i kind report are named v w r = tt
failed_file one c name (Some files) i kind report are named v w r = (
  r.text,
  ap (option_and_then (get files)) (sym named) ∙ (ap (λ (j : Inputs). j.file Design) (sym are) ∙ r.is),
  failed_text one i kind report v w r,
)

-- of the design that is generated
failed_generated : OneTree → (hosts : ℕ) (kind : Kind) (report : Report) → report.verdict ≡ verdict_of kind → OfDesign (generated hosts) (λ _ d. WellFormed d) → OfDesign (generated hosts) (λ _ d. (number : ℕ) × IsFailing d number report)
    → Failed generated_design kind report.lines
failed_generated one hosts kind report v w r =
    subst (λ (t : List ℕ). Failed t kind report.lines) (same_some ((generated hosts).file Design) r.text generated_design r.is refl) (failed_text one (generated hosts) kind report v w r)

-- ---- of a command

-- the steps of what both commands read of the design, up to its rules
failed_by : OneTree → (c : Command) (content : Option Files) (i : Inputs) (kind : Kind) (report : Report) (before after : Option (List ℕ)) → InputsAre (files_of c) content i → report.verdict ≡ verdict_of kind → after ≡ appended before report.lines
    → FirstWith i (λ s. Judges i s report) (steps c) → FailedOf (Some c) content kind before after
failed_by one (check d n rounds) content i kind report before after are v printed h =
    let a = passed i report _ _ h (λ j. j) in
    let b = passed i report _ _ a.1 (λ j. j) in
    let reads = passed i report _ _ b.1 (λ j. j) in
    let rules = passed i report _ _ reads.1 (λ j. j) in
    let limits = passed i report _ _ rules.1 (λ j. j) in
    let trees = passed i report _ _ limits.1 (λ j. j) in
    (report.lines, failed_file one (check d n rounds) d content i kind report are refl v rules.0 (reached i report _ _ trees.1 refl), printed)
failed_by one (compile d e o n rounds) content i kind report before after are v printed h =
    let a = passed i report _ _ h (λ j. j) in
    let b = passed i report _ _ a.1 (λ j. j) in
    let p = passed i report _ _ b.1 (λ j. j) in
    let q = passed i report _ _ p.1 (λ j. j) in
    let reads = passed i report _ _ q.1 (λ j. j) in
    let rules = passed i report _ _ reads.1 (λ j. j) in
    let limits = passed i report _ _ rules.1 (λ j. j) in
    let defs = passed i report _ _ limits.1 (λ j. j) in
    let fit = passed i report _ _ defs.1 (λ j. j) in
    let rows = passed i report _ _ fit.1 (λ j. j) in
    let met = passed i report _ _ rows.1 (λ j. j) in
    let trees = passed i report _ _ met.1 (λ j. j) in
    (report.lines, failed_file one (compile d e o n rounds) d content i kind report are refl v rules.0 (reached i report _ _ trees.1 refl), printed)
failed_by one (update d e o n) content i kind report before after are v printed h = let no : false ≡ true = judged_any i report (steps (update d e o n)) h in cc
failed_by one (step d e l f) content i kind report before after are v printed h = let no : false ≡ true = judged_any i report (steps (step d e l f)) h in cc
failed_by one (forward o p n) content i kind report before after are v printed h = let no : false ≡ true = judged_any i report (steps (forward o p n)) h in cc
failed_by one (gen hosts packets) content i kind report before after are v printed h =
    let reads = passed i report _ _ h (λ j. j) in
    let rules = passed i report _ _ reads.1 (λ j. j) in
    let limits = passed i report _ _ rules.1 (λ j. j) in
    let defs = passed i report _ _ limits.1 (λ j. j) in
    let fit = passed i report _ _ defs.1 (λ j. j) in
    let rows = passed i report _ _ fit.1 (λ j. j) in
    let met = passed i report _ _ rows.1 (λ j. j) in
    let trees = passed i report _ _ met.1 (λ j. j) in
    (report.lines, failed_generated one hosts kind report v rules.0 (reached i report _ _ trees.1 refl), printed)

-- ---- of a call

no_budget : (k : Kind) (v : Verdict) → v ≡ verdict_of k → v ≡ verdict.Budget → ⊥
no_budget contained v e f = let no : ◌≡◌ {A = Verdict} verdict.Refuted verdict.Budget = sym e ∙ f in cc
no_budget bounded v e f = let no : ◌≡◌ {A = Verdict} verdict.HopBound verdict.Budget = sym e ∙ f in cc

no_success : (k : Kind) (v : Verdict) → v ≡ verdict_of k → v ≡ verdict.Done → ⊥
no_success contained v e f = let no : ◌≡◌ {A = Verdict} verdict.Refuted verdict.Done = sym e ∙ f in cc
no_success bounded v e f = let no : ◌≡◌ {A = Verdict} verdict.HopBound verdict.Done = sym e ∙ f in cc

-- an outcome that reports a failure is one of a step with a verdict
ends_judged : (i : Inputs) (kind : Kind) (report : Report) → report.verdict ≡ verdict_of kind → (s : Step) → EndsAt i (Ok report) s → Judges i s report
ends_judged i kind report v s (inl h) = h
ends_judged i kind report v s (inr h) = absurd (no_budget kind report.verdict v (spends_budget i s report h.0 h.1))

ended : (c : Command) (i : Inputs) (kind : Kind) (report : Report) → report.verdict ≡ verdict_of kind → Answers c i (Ok report) → FirstWith i (λ s. Judges i s report) (steps c)
ended c i kind report v (inl (no_memory e)) = absurd (let no : ◌≡◌ {A = Result Report Refusal} (Ok report) (Err refusal.NoMemory) = e in cc)
ended c i kind report v (inl (at_step h)) = first_map i (EndsAt i (Ok report)) (λ s. Judges i s report) (ends_judged i kind report v) (steps c) h
ended c i kind report v (inl (at_fault h)) = absurd (first_gives i (StopsAt i (Ok report)) (λ s j. j) (steps c) h)
ended c i kind report v (inr h) = absurd (no_success kind report.verdict v (report_done c i report h.1))

no_usage : (k : Kind) (call : Call) → CauseOf None call → call.status ≡ verdict_status (verdict_of k) → ⊥
no_usage contained call h s = let no : ◌≡◌ {A = Status} Refuted Usage = no_command call Refuted tt h s in cc
no_usage bounded call h s = let no : ◌≡◌ {A = Status} HopBound Usage = no_command call HopBound tt h s in cc

pub failed_of : OneTree → (kind : Kind) (c : Option Command) (call : Call) → CauseOf c call → call.status ≡ verdict_status (verdict_of kind) → FailedOf c call.content_before kind call.output_before call.output_after
failed_of one kind None call h s = absurd (no_usage kind call h s)
failed_of one kind (Some c) call h s =
    let f = failure_told c call h kind s in
    let p = subst (λ (x : Result Report Refusal). Performs c call.content_before call.content_after x) f.1 h.performs in
    failed_by one c call.content_before p.inputs kind f.0 call.output_before call.output_after p.inputs_are f.2 f.3 (ended c p.inputs kind f.0 f.2 p.answers)

-- the same of the command that was read of the words
pub failed_words : (c : Command) (o : Option Command) (content : Option Files) (kind : Kind) (before after : Option (List ℕ)) → Some c ≡ o → FailedOf (Some c) content kind before after → FailedOf o content kind before after
failed_words c o content kind before after same h = subst (λ (d : Option Command). FailedOf d content kind before after) same h
