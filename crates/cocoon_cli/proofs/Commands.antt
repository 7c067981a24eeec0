-- What is proved of each command by its case: which steps a bundle decides, which files its steps tell of, that its report
-- is one, and what it writes.
use Rattle.std.proofs.Common.{◌≡◌, ◌⊎◌, ℕ, zero, suc, List, ◌++◌, length, Option, Some, None, Err, refl, sym, ap, subst, ◌∙◌, inl, inr}
use Rattle.cocoon_io.specs.Files.{Files}
use Rattle.cocoon_types.specs.Tables.{defs_of}
use Rattle.step_cases.specs.Cases.{case_of}
use Rattle.step_cases.specs.Stepping.{Steps}
use Rattle.step_cases.specs.declared.sent.Sent.{Sent}
use Rattle.generator.specs.Arriving.{IsReached}
use Rattle.generator.specs.Counting.{IsCount}
use Rattle.net_bundle.specs.Bundle as bundle_of
use Rattle.net_bundle.specs.Bundle.{whole_name}
use Rattle.net_bundle.specs.Writing.{AllFit, ContentHolds, Holds, NotWritten}
use Rattle.net_bundle.specs.declared.fault.BundleFault.{BundleFault}
use Rattle.net_bundle.specs.declared.file.BundleFile.{BundleFile}
use Rattle.net_bundle.specs.declared.fault.BundleFault.TheVariants as fault
use Rattle.obligation_laws.specs.Obligations.{all_obligations}
use Rattle.shared_net.specs.Shared.{shared_of}
use Rattle.p4_ir.specs.NetTree.{NetData}
use Rattle.command_line.specs.Command.{Command, check, compile, update, step, forward, gen}
use Rattle.command_reports.specs.FileNames.{FileNames, budget_name}
use Rattle.command_reports.specs.Refusals.{bundle_refusal}
use Rattle.command_reports.specs.Report.{fault_of, success, verdict_status}
use Rattle.command_reports.specs.declared.files.CommandFile.TheVariants.{Budget, Bundle, Case as CaseFile, Definitions, Design, Packets}
use Rattle.command_reports.specs.declared.refusal.Refusal.{Refusal}
use Rattle.command_reports.specs.declared.report.Report.{Report}
use Rattle.command_reports.specs.declared.report.Verdict.{Verdict}
use Rattle.command_reports.specs.declared.report.Verdict.TheVariants as verdict
use Rattle.command_answers.specs.declared.answer.Answer.{Answer}
use Rattle.command_answers.specs.declared.answer.Writing.{Writing as Written}
use Rattle.command_answers.specs.declared.answer.Writing.TheVariants as written
use Rattle.command_answers.specs.Commands.{Reports, Writes, asks, files_of, generated_name, standing_of, writes}
use Rattle.command_answers.specs.Answering.{IsBudget, PlansBy}
use Rattle.command_answers.specs.Compiling.{CompilesTexts, LowersTexts}
use Rattle.command_answers.specs.Outcomes.{AllGood, none, Ends, no_memory, reads, steps}
use Rattle.command_answers.specs.ReportLines.{compiled_line, generated_line, sent_text, totals_of, updated_line}
use Rattle.command_answers.specs.Steps.{Inputs, generated}
use Rattle.command_answers.specs.Updating.{Stands}
use Rattle.command_answers.specs.Writing.{with_writing, bundle}
use Rattle.cocoon_cli.specs.declared.reading.Read.{Read}
use Rattle.cocoon_cli.specs.Shell.{Plans, PlansDone, StandsFor, CanWrite, Fits, HoldsNet, IsGiven, NotAllWritten, ReadsAll, writing_of}
use Rattle.cocoon_cli.specs.Headline.{Compiled, CompiledOf, IsCertificates}
use Rattle.cocoon_cli.specs.Leaves.{IsWhole, LeavesFault, LeavesWhole}
use Rattle.cocoon_cli.specs.Run.{IsKnown, MayWrite, done, inputs_of}
use Rattle.command_answers.proofs.Ending.{all_good}
use Rattle.command_answers.proofs.Fitting.{files_good, files_refused, files_stopped, of_files}
use Rattle.command_answers.proofs.TextSteps.{Texts}
use Rattle.cocoon_cli.proofs.OneStep.{AllDecided, HasReading, HasWiring, Laws, on_both, on_design, on_packets, on_text, same_ok}
use Rattle.cocoon_cli.proofs.Telling.{AllTell, Named}
use Rattle.cocoon_cli.proofs.Headlines.{compiled_by, updated_by}
use Rattle.cocoon_cli.proofs.Refitting.{of_updated_files, rewrites_good, rewrites_refused, rewrites_stopped}

-- ---- its outcome

-- the steps of a command are decided where the content of a bundle that it reads is known
pub steps_decided : Laws → (c : Command) (i : Inputs) → IsKnown (standing_of c) i → AllDecided i (steps c)
steps_decided laws (check d n rounds) i b = (tt, (tt, (tt, (tt, (tt, (tt, (tt, tt)))))))
steps_decided laws (compile d e o n rounds) i b = (tt, (tt, (tt, (tt, (tt, (tt, (tt, (tt, (tt, (tt, (tt, (tt, (tt, (tt, (tt, (tt, (tt, (tt, tt))))))))))))))))))
steps_decided laws (update d e o n) i b =
    let r : HasWiring i o = (b.0, b.1, laws.one_wiring b.0 o) in
    (tt, (tt, (tt, (tt, (tt, (tt, (tt, (tt, (tt, (tt, (tt, (r, (tt, (r, (r, (r, (tt, (r, (tt, (tt, (tt, tt)))))))))))))))))))))
steps_decided laws (step d e l f) i b = (tt, (tt, (tt, (tt, (tt, (tt, (tt, (tt, (tt, (tt, (tt, (tt, (tt, (tt, tt))))))))))))))
steps_decided laws (forward o p n) i b =
    let r : HasReading i o = (b.0, b.1, laws.one_reading b.0 o) in
    (tt, (tt, (r, (r, (r, tt)))))
steps_decided laws (gen hosts packets) i b = (tt, (tt, (tt, (tt, (tt, (tt, (tt, (tt, (tt, (tt, (tt, (tt, (tt, (tt, (tt, tt)))))))))))))))

-- each tells of a file that the command has
pub all_tell : (c : Command) → AllTell (files_of c) (steps c)
all_tell (check d n rounds) =
    let x : Named (files_of (check d n rounds)) Design = (d, refl) in
    let b : Named (files_of (check d n rounds)) Budget = (budget_name d, refl) in
    (x, (x, (x, (x, (tt, (tt, (b, tt)))))))
all_tell (compile d e o n rounds) =
    let x : Named (files_of (compile d e o n rounds)) Design = (d, refl) in
    let y : Named (files_of (compile d e o n rounds)) Definitions = (e, refl) in
    let b : Named (files_of (compile d e o n rounds)) Budget = (budget_name d, refl) in
    let z : (file : BundleFile) → Named (files_of (compile d e o n rounds)) (Bundle file) = λ file. (whole_name o file, refl) in
    (x, (x, (y, (y, (x, (x, (tt, (y, (y, (tt, (b, (tt, (b, (tt, (z, (z, (z, (z, tt))))))))))))))))))
all_tell (update d e o n) =
    let x : Named (files_of (update d e o n)) Design = (d, refl) in
    let y : Named (files_of (update d e o n)) Definitions = (e, refl) in
    let b : Named (files_of (update d e o n)) Budget = (budget_name d, refl) in
    let z : (file : BundleFile) → Named (files_of (update d e o n)) (Bundle file) = λ file. (whole_name o file, refl) in
    (x, (x, (y, (y, (x, (x, (tt, (y, (y, (tt, (b, (z, (tt, (z, (z, (z, (tt, (z, (z, (z, (z, tt)))))))))))))))))))))
all_tell (step d e l f) =
    let x : Named (files_of (step d e l f)) Design = (d, refl) in
    let y : Named (files_of (step d e l f)) Definitions = (e, refl) in
    let z : Named (files_of (step d e l f)) CaseFile = (f, refl) in
    (x, (x, (y, (y, (z, (z, (x, (x, (tt, (y, (y, (tt, (tt, (z, tt))))))))))))))
all_tell (forward o p n) =
    let x : Named (files_of (forward o p n)) Packets = (p, refl) in
    (x, (x, (λ file. (whole_name o file, refl), (x, (tt, tt)))))
all_tell (gen hosts packets) =
    let x : Named (files_of (gen hosts packets)) Design = (generated_name, refl) in
    let y : Named (files_of (gen hosts packets)) Definitions = (generated_name, refl) in
    let b : Named (files_of (gen hosts packets)) Budget = (budget_name generated_name, refl) in
    let z : (file : BundleFile) → Named (files_of (gen hosts packets)) (Bundle file) = λ file. (whole_name generated_name file, refl) in
    (x, (x, (tt, (y, (y, (tt, (b, (tt, (b, (tt, (z, (z, (z, (z, (tt, tt)))))))))))))))

-- one number of things has a property
one_count : (Has : ℕ → Type 0) (all m n : ℕ) → IsCount Has all m → IsCount Has all n → m ≡ n
one_count Has zero m n h k = h ∙ sym k
one_count Has (suc all) m n (inl h) (inl k) = h.1.1 ∙ ap suc (one_count Has all h.1.0 k.1.0 h.1.2 k.1.2) ∙ sym k.1.1
one_count Has (suc all) m n (inl h) (inr k) = absurd (k.0 h.0)
one_count Has (suc all) m n (inr h) (inl k) = absurd (h.0 k.0)
one_count Has (suc all) m n (inr h) (inr k) = one_count Has all m n h.1 k.1

-- it has one report
pub one_report : Laws → (c : Command) (i : Inputs) (r q : Report) → IsKnown (standing_of c) i → Reports c i r → Reports c i q → r ≡ q
one_report laws (check d n rounds) i r q b h k = on_design laws i (λ _ t x y. x ∙ sym y) h k
one_report laws (compile d e o n rounds) i r q b h k =
    on_both laws i (λ t d u e (m, low, x) (p, lows, y).
    x ∙ ap (λ (n : NetData). success (compiled_line (totals_of (length (all_obligations d)) n))) (laws.one_net d e m p low lows) ∙ sym y) h k
one_report laws (update d e o n) i r q b h k =
    on_both laws i (λ t d u e (m, low, x) (p, lows, y).
    x ∙ ap (λ (n : NetData). success (updated_line (totals_of (length (all_obligations d)) n))) (laws.one_net d e m p low lows) ∙ sym y) h k
one_report laws (step d e l f) i r q b h k =
    on_both laws i (λ t d u e v w. on_text i CaseFile (λ z (c, s, says, does, x) (a, p, said, did, y).
    let same = same_ok (case_of l d z) c a says said in
    let sent = laws.one_step l d (defs_of d e) a s p (subst (λ c. Steps l d (defs_of d e) c s) same does) did in
    x ∙ ap (λ (s : Option Sent). success (sent_text s)) (sym sent) ∙ sym y) v w) h k
one_report laws (forward o p n) i r q b h k =
    on_packets i o (b.0, b.1, laws.one_reading b.0 o) (λ net ps (lines, are, x) (other, too, y).
    x ∙ ap success (laws.same_report net n ps lines other are too) ∙ sym y) h k
one_report laws (gen hosts packets) i r q b h k =
    on_both laws (generated hosts) (λ t d u e (m, counts, x) (n, others, y).
    x ∙ ap (λ (c : ℕ). success (generated_line hosts packets c)) (one_count (IsReached d (defs_of d e) hosts) packets m n counts others) ∙ sym y) h k

-- ---- what it writes

-- where all steps are good, a command succeeds
pub report_done : (c : Command) (i : Inputs) (report : Report) → Reports c i report → report.verdict ≡ verdict.Done
report_done (check d n rounds) i report k = ap (λ (r : Report). r.verdict) k.holds
report_done (compile d e o n rounds) i report k = ap (λ (r : Report). r.verdict) k.holds.holds.2
report_done (update d e o n) i report k = ap (λ (r : Report). r.verdict) k.holds.holds.2
report_done (step d e l f) i report k =
    let (case, sent, says, steps, said) = k.holds.holds.holds in ap (λ (r : Report). r.verdict) said
report_done (forward o p n) i report k =
    let (packets, say, (lines, are, said)) = k.holds.holds in ap (λ (r : Report). r.verdict) said
report_done (gen hosts packets) i report k =
    let (delivered, counts, said) = k.holds.holds in ap (λ (r : Report). r.verdict) said

-- what a command that reports this writes, and the status of its report
pub report_writes : (c : Command) (i : Inputs) (before after : Option Files) (report : Report) → Reports c i report → LeavesWhole c i before after → MayWrite (verdict_status report.verdict) ⊎ (after ≡ before)
report_writes (check d n rounds) i before after report k (w, is, h) = inr (h ∙ ap (λ x. with_writing x before) is.1)
report_writes (compile d e o n rounds) i before after report k h = inl (done (ap verdict_status (report_done (compile d e o n rounds) i report k)))
report_writes (update d e o n) i before after report k h = inl (done (ap verdict_status (report_done (update d e o n) i report k)))
report_writes (step d e l f) i before after report k (w, is, h) = inr (h ∙ ap (λ x. with_writing x before) is.1)
report_writes (forward o p n) i before after report k (w, is, h) = inr (h ∙ ap (λ x. with_writing x before) is.1)
report_writes (gen hosts packets) i before after report k (w, is, h) = inr (h ∙ ap (λ x. with_writing x before) is.1)

-- the two texts of a `compile`
texts : (d e o : List ℕ) (n rounds : ℕ) (i : Inputs) (read : Read) → IsGiven (files_of (compile d e o n rounds)) i read → Texts i read.design.items read.definitions.items
texts d e o n rounds i read g = record { design = g.design.0; defs = g.definitions.0 }

-- those of an `update`
new_texts : (d e o : List ℕ) (n : ℕ) (i : Inputs) (read : Read) → IsGiven (files_of (update d e o n)) i read → Texts i read.design.items read.definitions.items
new_texts d e o n i read g = record { design = g.design.0; defs = g.definitions.0 }

-- the steps of writing are good where all of it fits
pub writes_good : (c : Command) (i : Inputs) (read : Read) (w : Written) → IsGiven (files_of c) i read → PlansDone c read w → Fits (writing_of (files_of c) read w) → AllGood i (writes c)
writes_good (compile d e o n rounds) i read (written.Bundle name net (Some certs)) g p fit = files_good i read.design.items read.definitions.items (shared_of net) certs (texts d e o n rounds i read g) p.1 fit
writes_good (compile d e o n rounds) i read w g p fit = absurd p
writes_good (update d e o n) i read (written.Bundle name net None) g p fit = rewrites_good i read.design.items read.definitions.items (shared_of net) (new_texts d e o n i read g) p.1 fit
writes_good (update d e o n) i read w g p fit = absurd p
writes_good (check d n rounds) i read w g p fit = none
writes_good (step d e l f) i read w g p fit = none
writes_good (forward o p n) i read w g h fit = none
writes_good (gen hosts packets) i read w g h fit = none

-- and it is what the command writes
pub writes_it : (c : Command) (i : Inputs) (read : Read) (w : Written) → IsGiven (files_of c) i read → PlansDone c read w → Fits (writing_of (files_of c) read w) → Writes c i (writing_of (files_of c) read w)
writes_it (compile d e o n rounds) i read (written.Bundle name net (Some certs)) g p fit =
    of_files i read.design.items read.definitions.items (shared_of net) certs (texts d e o n rounds i read g) p.1
    (λ files. AllFit files × (bundle name.now (bundle_of.bundle read.design.items (shared_of net) (Some certs)) ≡ bundle o files))
    (fit, ap (λ out. bundle out (bundle_of.bundle read.design.items (shared_of net) (Some certs))) p.0)
writes_it (compile d e o n rounds) i read w g p fit = absurd p
writes_it (update d e o n) i read (written.Bundle name net None) g p fit =
    of_updated_files i read.design.items read.definitions.items (shared_of net) (new_texts d e o n i read g) p.1
    (λ files. AllFit files × (bundle name.now (bundle_of.bundle read.design.items (shared_of net) None) ≡ bundle o files))
    (fit, ap (λ out. bundle out (bundle_of.bundle read.design.items (shared_of net) None)) p.0)
writes_it (update d e o n) i read w g p fit = absurd p
writes_it (check d n rounds) i read w g p fit = ap (writing_of (files_of (check d n rounds)) read) p
writes_it (step d e l f) i read w g p fit = ap (writing_of (files_of (step d e l f)) read) p
writes_it (forward o q n) i read w g p fit = ap (writing_of (files_of (forward o q n)) read) p
writes_it (gen hosts packets) i read w g p fit = ap (writing_of (files_of (gen hosts packets)) read) p

-- it may be written
can_write_done : (c : Command) (read : Read) (w : Written) → PlansDone c read w → CanWrite (files_of c) w
can_write_done (compile d e o n rounds) read (written.Bundle name net (Some certs)) p = (ap Some (sym p.0), p.1.lowers.lowering.writable)
can_write_done (compile d e o n rounds) read w p = absurd p
can_write_done (update d e o n) read (written.Bundle name net None) p = (ap Some (sym p.0), p.1.lowering.writable)
can_write_done (update d e o n) read w p = absurd p
can_write_done (check d n rounds) read w p = subst (CanWrite (files_of (check d n rounds))) (sym p) tt
can_write_done (step d e l f) read w p = subst (CanWrite (files_of (step d e l f))) (sym p) tt
can_write_done (forward o q n) read w p = subst (CanWrite (files_of (forward o q n))) (sym p) tt
can_write_done (gen hosts packets) read w p = subst (CanWrite (files_of (gen hosts packets))) (sym p) tt

-- the file of a search that was given up may be written
budget_can : (names : FileNames) (w : Written) → IsBudget w → CanWrite names w
budget_can names (written.Own Budget bytes) p = tt
budget_can names w p = absurd p

can_write_by : (c : Command) (read : Read) (v : Verdict) (w : Written) → PlansBy (λ x. PlansDone c read x) v w → CanWrite (files_of c) w
can_write_by c read verdict.Done w p = can_write_done c read w p
can_write_by c read verdict.Budget w p = budget_can (files_of c) w p
can_write_by c read v w p = subst (CanWrite (files_of c)) (sym p) tt

pub can_write : (c : Command) (read : Read) (answer : Answer) → Plans c read answer → CanWrite (files_of c) answer.writing
can_write c read answer p = can_write_by c read answer.report.verdict answer.writing p

-- why it was not written
pub record Unwritten (c : Command) (i : Inputs) (before after : Option Files) (r : Refusal) : Type 0 where
  pub ends : Ends i (Err r) (writes c)
  pub leaves : LeavesFault c i before after (fault_of r)

-- where its files fit, a bundle is what `compile` writes
bundle_written_by : (d e o : List ℕ) (n rounds : ℕ) (i : Inputs) (read : Read) (net : NetData) (certs : List ℕ) → AllGood i (reads (files_of (compile d e o n rounds))) → AllGood i (asks (compile d e o n rounds)) → Texts i read.design.items read.definitions.items
    → CompilesTexts read.design.items read.definitions.items net certs → AllFit (bundle_of.bundle read.design.items net (Some certs)) → IsWhole (compile d e o n rounds) i (bundle o (bundle_of.bundle read.design.items net (Some certs)))
bundle_written_by d e o n rounds i read net certs r a g l fit =
    let c = compile d e o n rounds in
    let x = read.design.items in
    let y = read.definitions.items in (
      all_good i (reads (files_of c)) (asks c ++ writes c) r (all_good i (asks c) (writes c) a (files_good i x y net certs g l fit)),
      of_files i x y net certs g l (λ files. AllFit files × (bundle o (bundle_of.bundle x net (Some certs)) ≡ bundle o files)) (fit, refl),
    )

bundle_unwritten : (d e o : List ℕ) (n rounds : ℕ) (i : Inputs) (before after : Option Files) (read : Read) (net : NetData) (certs : List ℕ) (f : BundleFault) (report : Report) → Reports (compile d e o n rounds) i report → AllGood i (reads (files_of (compile d e o n rounds))) → AllGood i (asks (compile d e o n rounds)) → Texts i read.design.items read.definitions.items
    → CompilesTexts read.design.items read.definitions.items net certs → NotWritten o (bundle_of.bundle read.design.items net (Some certs)) before after f → Unwritten (compile d e o n rounds) i before after (bundle_refusal f)
bundle_unwritten d e o n rounds i before after read net certs (fault.Folder file cause) report k r a g l h = record {
  ends = files_stopped i read.design.items read.definitions.items net certs g l file h.0;
  leaves = (report, bundle o (bundle_of.bundle read.design.items net (Some certs)), inl (bundle_written_by d e o n rounds i read net certs r a g l h.0, k), h.2);
}
bundle_unwritten d e o n rounds i before after read net certs (fault.Limit file) report k r a g l h = record {
  ends = files_refused i read.design.items read.definitions.items net certs g l file h.0;
  leaves = h.1;
}
bundle_unwritten d e o n rounds i before after read net certs fault.NoMemory report k r a g l (inl h) = record { ends = no_memory refl; leaves = inl h }
bundle_unwritten d e o n rounds i before after read net certs fault.NoMemory report k r a g l (inr h) = record {
  ends = no_memory refl;
  leaves = inr (report, bundle o (bundle_of.bundle read.design.items net (Some certs)), inl (bundle_written_by d e o n rounds i read net certs r a g l h.0, k), h.1);
}

-- and what `update` does
update_written_by : (d e o : List ℕ) (n : ℕ) (i : Inputs) (read : Read) (net : NetData) → AllGood i (reads (files_of (update d e o n))) → AllGood i (asks (update d e o n)) → Texts i read.design.items read.definitions.items
    → LowersTexts read.design.items read.definitions.items net → AllFit (bundle_of.bundle read.design.items net None) → IsWhole (update d e o n) i (bundle o (bundle_of.bundle read.design.items net None))
update_written_by d e o n i read net r a g l fit =
    let c = update d e o n in
    let x = read.design.items in
    let y = read.definitions.items in (
      all_good i (reads (files_of c)) (asks c ++ writes c) r (all_good i (asks c) (writes c) a (rewrites_good i x y net g l fit)),
      of_updated_files i x y net g l (λ files. AllFit files × (bundle o (bundle_of.bundle x net None) ≡ bundle o files)) (fit, refl),
    )

update_unwritten : (d e o : List ℕ) (n : ℕ) (i : Inputs) (before after : Option Files) (read : Read) (net : NetData) (f : BundleFault) (report : Report) → Reports (update d e o n) i report → AllGood i (reads (files_of (update d e o n))) → AllGood i (asks (update d e o n)) → Texts i read.design.items read.definitions.items
    → LowersTexts read.design.items read.definitions.items net → NotWritten o (bundle_of.bundle read.design.items net None) before after f → Unwritten (update d e o n) i before after (bundle_refusal f)
update_unwritten d e o n i before after read net (fault.Folder file cause) report k r a g l h = record {
  ends = rewrites_stopped i read.design.items read.definitions.items net g l file h.0;
  leaves = (report, bundle o (bundle_of.bundle read.design.items net None), inl (update_written_by d e o n i read net r a g l h.0, k), h.2);
}
update_unwritten d e o n i before after read net (fault.Limit file) report k r a g l h = record {
  ends = rewrites_refused i read.design.items read.definitions.items net g l file h.0;
  leaves = h.1;
}
update_unwritten d e o n i before after read net fault.NoMemory report k r a g l (inl h) = record { ends = no_memory refl; leaves = inl h }
update_unwritten d e o n i before after read net fault.NoMemory report k r a g l (inr h) = record {
  ends = no_memory refl;
  leaves = inr (report, bundle o (bundle_of.bundle read.design.items net None), inl (update_written_by d e o n i read net r a g l h.0, k), h.1);
}

-- of a command that writes nothing
nothing_unwritten : (c : Command) (i : Inputs) (before after : Option Files) (read : Read) (w : Written) (r : Refusal) → w ≡ written.Nothing → NotAllWritten (writing_of (files_of c) read w) before after r → Unwritten c i before after r
nothing_unwritten c i before after read w r p h =
    let none = subst (λ (x : Written). NotAllWritten (writing_of (files_of c) read x) before after r) p h in
    subst (λ (x : Refusal). Unwritten c i before after x) (sym none.0) (record { ends = no_memory refl; leaves = inl none.1 })

pub not_written : (c : Command) (i : Inputs) (before after : Option Files) (read : Read) (w : Written) (r : Refusal) (report : Report) → Reports c i report → AllGood i (reads (files_of c)) → AllGood i (asks c) → IsGiven (files_of c) i read
    → PlansDone c read w → NotAllWritten (writing_of (files_of c) read w) before after r → Unwritten c i before after r
not_written (compile d e o n rounds) i before after read (written.Bundle name net (Some certs)) r report k rs ask g p h =
    let m = subst (λ out. NotWritten out (bundle_of.bundle read.design.items (shared_of net) (Some certs)) before after h.0) p.0 h.1 in
    subst (λ (x : Refusal). Unwritten (compile d e o n rounds) i before after x) (sym h.2) (bundle_unwritten d e o n rounds i before after read (shared_of net) certs h.0 report k rs ask (texts d e o n rounds i read g) p.1 m)
not_written (compile d e o n rounds) i before after read w r report k rs ask g p h = absurd p
not_written (update d e o n) i before after read (written.Bundle name net None) r report k rs ask g p h =
    let m = subst (λ out. NotWritten out (bundle_of.bundle read.design.items (shared_of net) None) before after h.0) p.0 h.1 in
    subst (λ (x : Refusal). Unwritten (update d e o n) i before after x) (sym h.2) (update_unwritten d e o n i before after read (shared_of net) h.0 report k rs ask (new_texts d e o n i read g) p.1 m)
not_written (update d e o n) i before after read w r report k rs ask g p h = absurd p
not_written (check d n rounds) i before after read w r report k rs ask g p h = nothing_unwritten (check d n rounds) i before after read w r p h
not_written (step d e l f) i before after read w r report k rs ask g p h = nothing_unwritten (step d e l f) i before after read w r p h
not_written (forward o q n) i before after read w r report k rs ask g p h = nothing_unwritten (forward o q n) i before after read w r p h
not_written (gen hosts packets) i before after read w r report k rs ask g p h = nothing_unwritten (gen hosts packets) i before after read w r p h

-- ---- the main promise

compiled : (before after : Files) (d e o : List ℕ) (n rounds : ℕ) (read : Read) (net : NetData) (certs : List ℕ) → IsGiven (files_of (compile d e o n rounds)) (inputs_of (files_of (compile d e o n rounds)) before) read
    → CompilesTexts read.design.items read.definitions.items net certs → Holds before after o read.design.items net (Some certs) → Compiled before after d e o (IsCertificates o)
compiled before after d e o n rounds read net certs g made h =
    compiled_by before after d e o read.design.items read.definitions.items net (Some certs) g.design.0 g.definitions.0 made.lowers h (IsCertificates o) (λ name not same. absurd (not same))

net_compiled : (before after : Option Files) (d e o : List ℕ) (n rounds : ℕ) (read : Read) (net : NetData) (certs : List ℕ) → ReadsAll (files_of (compile d e o n rounds)) before read → CompilesTexts read.design.items read.definitions.items net certs
    → ContentHolds before after o read.design.items net (Some certs) → CompiledOf (Some (compile d e o n rounds)) before after
net_compiled None after d e o n rounds read net certs g l h = tt
net_compiled (Some before) None d e o n rounds read net certs g l h = h
net_compiled (Some before) (Some after) d e o n rounds read net certs g l h =
    compiled before after d e o n rounds read net certs (subst (λ (i : Inputs). IsGiven (files_of (compile d e o n rounds)) i read) g.inputs_are g.given) l h

-- of an `update`, over the bundle that stood there
net_updated : (before after : Option Files) (d e o : List ℕ) (n : ℕ) (read : Read) (net : NetData) → ReadsAll (files_of (update d e o n)) before read → LowersTexts read.design.items read.definitions.items net
    → ((files : Files) → before ≡ Some files → Stands files o read.design.items net) → ContentHolds before after o read.design.items net None → CompiledOf (Some (update d e o n)) before after
net_updated None after d e o n read net g l s h = tt
net_updated (Some before) None d e o n read net g l s h = h
net_updated (Some before) (Some after) d e o n read net g l s h =
    let given = subst (λ (i : Inputs). IsGiven (files_of (update d e o n)) i read) g.inputs_are g.given in
    updated_by before after d e o read.design.items read.definitions.items net None given.design.0 given.definitions.0 l h refl (s before refl)

headline_done : (c : Command) (before mid after : Option Files) (read : Read) (w : Written) → mid ≡ before → ReadsAll (files_of c) before read → PlansDone c read w → StandsFor c before read w → HoldsNet read w mid after → CompiledOf (Some c) before after
headline_done (compile d e o n rounds) before mid after read (written.Bundle name net (Some certs)) same g p s h =
    net_compiled before after d e o n rounds read (shared_of net) certs g p.1
    (subst (λ out. ContentHolds before after out read.design.items (shared_of net) (Some certs)) p.0 (subst (λ content. ContentHolds content after name.now read.design.items (shared_of net) (Some certs)) same h))
headline_done (compile d e o n rounds) before mid after read w same g p s h = absurd p
headline_done (update d e o n) before mid after read (written.Bundle name net None) same g p s h =
    net_updated before after d e o n read (shared_of net) g p.1 s
    (subst (λ out. ContentHolds before after out read.design.items (shared_of net) None) p.0 (subst (λ content. ContentHolds content after name.now read.design.items (shared_of net) None) same h))
headline_done (update d e o n) before mid after read w same g p s h = absurd p
headline_done (check d n rounds) before mid after read w same g p s h = tt
headline_done (step d e l f) before mid after read w same g p s h = tt
headline_done (forward o q n) before mid after read w same g p s h = tt
headline_done (gen hosts packets) before mid after read w same g p s h = tt

pub headline : (c : Command) (before mid after : Option Files) (read : Read) (answer : Answer) → mid ≡ before → ReadsAll (files_of c) before read → Plans c read answer → answer.report.verdict ≡ verdict.Done → StandsFor c before read answer.writing → HoldsNet read answer.writing mid after
    → CompiledOf (Some c) before after
headline c before mid after read answer same g p is s h =
    headline_done c before mid after read answer.writing same g (subst (λ (v : Verdict). PlansBy (λ w. PlansDone c read w) v answer.writing) is p) s h

-- the same of what is planned where all steps are good
pub planned_done : (c : Command) (i : Inputs) (read : Read) (answer : Answer) → Reports c i answer.report → Plans c read answer → PlansDone c read answer.writing
planned_done c i read answer k p = subst (λ (v : Verdict). PlansBy (λ w. PlansDone c read w) v answer.writing) (report_done c i answer.report k) p
