-- A step that ends a command with a report: what is written with it, and that a fault of that write stops the step.
use Rattle.std.proofs.Common.{◌≡◌, ℕ, List, [], ◌∷◌, Option, Some, Ok, Err, refl, sym, ap, subst, inl, inr}
use Rattle.cocoon_io.specs.Files.{Files}
use Rattle.command_line.specs.Command.{Command}
use Rattle.command_reports.specs.FileNames.{FileNames, name_of}
use Rattle.command_reports.specs.Report.{fault_of}
use Rattle.command_reports.specs.declared.files.CommandFile.TheVariants.{Budget}
use Rattle.command_reports.specs.declared.refusal.Refusal.{Refusal}
use Rattle.command_reports.specs.declared.refusal.Refusal.TheVariants as refusal
use Rattle.command_reports.specs.declared.report.Report.{Report}
use Rattle.command_reports.specs.declared.report.Verdict.{Verdict}
use Rattle.command_reports.specs.declared.report.Verdict.TheVariants as verdict
use Rattle.obligation_laws.specs.Obligations.{Kind, contained, bounded}
use Rattle.command_answers.specs.declared.answer.Writing.{Writing as Written}
use Rattle.command_answers.specs.declared.answer.Writing.TheVariants as written
use Rattle.command_answers.specs.Answering.{IsFound}
use Rattle.command_answers.specs.Commands.{files_of}
use Rattle.command_answers.specs.Outcomes.{Ends, EndsAt, FirstWith, StopsAt, here, later, no_memory, at_fault, steps}
use Rattle.command_answers.specs.Owing.{verdict_of}
use Rattle.command_answers.specs.Steps.{Inputs, Judges, Step, Spends, Stops, assumptions_met, generated, obligations_hold, of_generated}
use Rattle.command_answers.specs.Writing.{own}
use Rattle.cocoon_cli.specs.declared.reading.Read.{Read}
use Rattle.cocoon_cli.specs.Leaves.{EndsWriting, LeavesFault}
use Rattle.cocoon_cli.specs.Shell.{NotAllWritten, own_file, writing_of}
use Rattle.command_answers.proofs.Ending.{first_gives, first_map}
use Rattle.command_answers.proofs.Owing.{owed_budget}
use Rattle.cocoon_cli.proofs.Commands.{all_tell}
use Rattle.cocoon_cli.proofs.Telling.{AllTell, Named, Tells}

-- what follows of a step with its files
told_map : (names : FileNames) (i : Inputs) (P Q : Step → Type 0) → ((s : Step) → Tells names s → P s → Q s) → (ss : List Step) → AllTell names ss → FirstWith i P ss → FirstWith i Q ss
told_map names i P Q f [] t h = elim h [ ]
told_map names i P Q f (s ∷ ss) t (here p) = here (f s t.0 p)
told_map names i P Q f (s ∷ ss) t (later g h) = later g (told_map names i P Q f ss t.1 h)

-- the verdict of a search that was given up
pub spends_budget : (i : Inputs) (s : Step) (report : Report) (bytes : List ℕ) → Spends i s report bytes → report.verdict ≡ verdict.Budget
spends_budget i (assumptions_met n) report bytes h = ap (λ (r : Report). r.verdict) h.holds.holds.2
spends_budget i (obligations_hold n m) report bytes h = owed_budget h.design n m report bytes h.holds
spends_budget i (of_generated hosts s) report bytes h = spends_budget (generated hosts) s report bytes h
spends_budget i s report bytes h = absurd h

-- a verdict on what a design owes is one of a failure
abbrev pub IsOfFailure : Verdict → Type 0
IsOfFailure verdict.Refuted = Unit {0}
IsOfFailure verdict.HopBound = Unit {0}
IsOfFailure v = ⊥

of_failure : (k : Kind) → IsOfFailure (verdict_of k)
of_failure contained = tt
of_failure bounded = tt

pub judges_failure : (i : Inputs) (s : Step) (report : Report) → Judges i s report → IsOfFailure report.verdict
judges_failure i (obligations_hold n m) report h =
    let says = h.holds.1.says in subst IsOfFailure (sym says.verdict_) (of_failure h.holds.1.obligation.kind)
judges_failure i (of_generated hosts s) report h = judges_failure (generated hosts) s report h
judges_failure i s report h = absurd h

-- its file has a name
spends_named : (names : FileNames) (i : Inputs) (s : Step) (report : Report) (bytes : List ℕ) → Tells names s → Spends i s report bytes → Named names Budget
spends_named names i (assumptions_met n) report bytes t h = t
spends_named names i (obligations_hold n m) report bytes t h = t
spends_named names i (of_generated hosts s) report bytes t h = spends_named names (generated hosts) s report bytes t h
spends_named names i s report bytes t h = absurd h

-- a fault of its write stops the step
spends_stops : (i : Inputs) (s : Step) (report : Report) (bytes : List ℕ) → Spends i s report bytes → Stops i s (refusal.WriteFault Budget)
spends_stops i (assumptions_met n) report bytes h = (refl, (report, bytes, h))
spends_stops i (obligations_hold n m) report bytes h = (refl, (report, bytes, h))
spends_stops i (of_generated hosts s) report bytes h = spends_stops (generated hosts) s report bytes h
spends_stops i s report bytes h = absurd h

-- ---- one step

found_ends : (i : Inputs) (report : Report) (w : Written) (s : Step) → IsFound i report w s → EndsAt i (Ok report) s
found_ends i report written.Nothing s h = inl h
found_ends i report (written.Own Budget bytes) s h = inr (bytes, h)
found_ends i report w s h = absurd h

found_writes : (names : FileNames) (i : Inputs) (read : Read) (report : Report) (w : Written) (s : Step) → Tells names s → IsFound i report w s → EndsWriting names i report (writing_of names read w) s
found_writes names i read report written.Nothing s t h = inl (h, refl)
found_writes names i read report (written.Own Budget bytes) s t h =
    let n = spends_named names i s report bytes t h in inr (bytes, h, (n.0, n.1, ap (λ o. own_file Budget o bytes) n.1))
found_writes names i read report w s t h = absurd h

-- ---- a command

pub ends_of : (c : Command) (i : Inputs) (report : Report) (w : Written) → FirstWith i (IsFound i report w) (steps c) → FirstWith i (EndsAt i (Ok report)) (steps c)
ends_of c i report w h = first_map i (IsFound i report w) (EndsAt i (Ok report)) (found_ends i report w) (steps c) h

pub writes_of : (c : Command) (i : Inputs) (read : Read) (report : Report) (w : Written) → FirstWith i (IsFound i report w) (steps c)
    → FirstWith i (EndsWriting (files_of c) i report (writing_of (files_of c) read w)) (steps c)
writes_of c i read report w h =
    told_map (files_of c) i (IsFound i report w) (EndsWriting (files_of c) i report (writing_of (files_of c) read w)) (found_writes (files_of c) i read report w) (steps c) (all_tell c) h

-- ---- where it was not written

pub record Unfound (c : Command) (i : Inputs) (before after : Option Files) (r : Refusal) : Type 0 where
  pub ends : Ends i (Err r) (steps c)
  pub leaves : LeavesFault c i before after (fault_of r)

out_of_memory : (c : Command) (i : Inputs) (before after : Option Files) (r : Refusal) → r ≡ refusal.NoMemory → after ≡ before → Unfound c i before after r
out_of_memory c i before after r e same = subst (λ (x : Refusal). Unfound c i before after x) (sym e) (record { ends = no_memory refl; leaves = inl same })

named_of : (names : FileNames) (i : Inputs) (report : Report) (bytes : List ℕ) (ss : List Step) → AllTell names ss → FirstWith i (λ s. Spends i s report bytes) ss → Named names Budget
named_of names i report bytes [] t h = elim h [ ]
named_of names i report bytes (s ∷ ss) t (here h) = spends_named names i s report bytes t.0 h
named_of names i report bytes (s ∷ ss) t (later g h) = named_of names i report bytes ss t.1 h

own_unwritten : (c : Command) (i : Inputs) (before after : Option Files) (report : Report) (bytes name : List ℕ) (r : Refusal) → name_of (files_of c) Budget ≡ Some name → FirstWith i (λ s. Spends i s report bytes) (steps c)
    → NotAllWritten (own Budget name bytes) before after r → Unfound c i before after r
own_unwritten c i before after report bytes name r is h (inl (e, same)) = out_of_memory c i before after r e same
own_unwritten c i before after report bytes name r is h (inr (e, some)) =
    subst (λ (x : Refusal). Unfound c i before after x) (sym e) (record {
      ends = at_fault (first_map i (λ s. Spends i s report bytes) (StopsAt i (Err (refusal.WriteFault Budget))) (λ s k. spends_stops i s report bytes k) (steps c) h);
      leaves = (
        report,
        own Budget name bytes,
        inr (first_map i (λ s. Spends i s report bytes) (EndsWriting (files_of c) i report (own Budget name bytes)) (λ s k. inr (bytes, k, (name, is, refl))) (steps c) h),
        (refl, some),
      );
    })

pub not_found : (c : Command) (i : Inputs) (before after : Option Files) (read : Read) (report : Report) (w : Written) (r : Refusal) → FirstWith i (IsFound i report w) (steps c)
    → NotAllWritten (writing_of (files_of c) read w) before after r → Unfound c i before after r
not_found c i before after read report written.Nothing r h n = out_of_memory c i before after r n.0 n.1
not_found c i before after read report (written.Own Budget bytes) r h n =
    let named = named_of (files_of c) i report bytes (steps c) (all_tell c) h in
    own_unwritten c i before after report bytes named.0 r named.1 h (subst (λ o. NotAllWritten (own_file Budget o bytes) before after r) named.1 n)
not_found c i before after read report w r h n = absurd (first_gives i (IsFound i report w) (λ s no. no) (steps c) h)
