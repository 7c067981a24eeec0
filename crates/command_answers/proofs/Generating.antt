-- What `gen` answers, by what `compile` answers over the texts that are generated, put together from its parts.
use Rattle.std.proofs.Common.{◌≡◌, ◌⊎◌, ◌<◌, ℕ, List, [], ◌∷◌, ◌++◌, map, Option, Some, None, Result, Ok, Err, refl, sym, ap, subst, ◌∙◌, inl, inr, arith}
use Rattle.bundle_reader.specs.FolderCounts as counts
use Rattle.bundle_reader.specs.OneReading.{IsOfFiles, OneReading}
use Rattle.bundle_reader.specs.Readings.{IsFirstFault, ReadsAs}
use Rattle.bundle_reader.specs.declared.fault.ReadFault.{ReadFault}
use Rattle.bundle_reader.specs.declared.fault.ReadFault.TheVariants as read
use Rattle.cocoon_io.specs.Files.{Files}
use Rattle.cocoon_io.specs.declared.folder.FolderFault.TheVariants.{Failed, TooLong as Long, NoMemory as Wanting}
use Rattle.cocoon_num.specs.Tree.{Design, DefsText}
use Rattle.cocoon_types.specs.Tables.{Defs, defs_of}
use Rattle.generator.specs.Arriving.{Arrives, IsReached}
use Rattle.generator.specs.Counting.{IsCount}
use Rattle.generator.specs.Definitions.{definitions_text}
use Rattle.generator.specs.Design.{design_text}
use Rattle.lowering.specs.Delivers.{DeliversExactly}
use Rattle.net_bundle.specs.Bundle as bundle_of
use Rattle.net_bundle.specs.Bundle.{MadeFile}
use Rattle.net_bundle.specs.Network.{Network}
use Rattle.net_bundle.specs.Writing.{AllFit, ContentHolds, NotWritten, WriteFaultRose, with_files}
use Rattle.net_bundle.specs.declared.fault.BundleFault.{BundleFault}
use Rattle.net_bundle.specs.declared.fault.BundleFault.TheVariants as fault
use Rattle.shared_net.specs.Shared.{shared_of}
use Rattle.p4_ir.specs.NetTree.{NetData}
use Rattle.command_line.specs.Command.{compile, gen}
use Rattle.command_line.specs.Subcommands.{usual_conflicts, usual_rounds}
use Rattle.command_reports.specs.Refusals.{bundle_refusal, unread_as}
use Rattle.command_reports.specs.Report.{fault_of, success}
use Rattle.command_reports.specs.declared.files.CommandFile.TheVariants.{Budget, Definitions, Design as DesignFile}
use Rattle.command_reports.specs.declared.refusal.Refusal.{Refusal}
use Rattle.command_reports.specs.declared.refusal.Refusal.TheVariants as refusal
use Rattle.command_reports.specs.declared.report.Report.{Report}
use Rattle.command_reports.specs.declared.report.Verdict.{Verdict}
use Rattle.command_reports.specs.declared.report.Verdict.TheVariants as verdict
use Rattle.command_answers.specs.Answering.{IsFound, PlansBy, Asked}
use Rattle.command_answers.specs.Commands.{Reports, asks, compile_steps, generated_name, writing_steps}
use Rattle.command_answers.specs.Compiling.{Compiles, CompilesTexts}
use Rattle.command_answers.specs.Generating.{Counts, NotCounted, NotHeld, NotTold, TellsCount}
use Rattle.command_answers.specs.Outcomes.{AllGood, none, good, Ends, no_memory, at_step, at_fault, EndsAt, FirstWith, here, later, StopsAt}
use Rattle.command_answers.specs.ReportLines.{generated_line}
use Rattle.command_answers.specs.FolderCalls.{IsQuiet}
use Rattle.command_answers.specs.Steps.{Inputs, Step, generated, generated_definitions, generated_design, of_generated, sent_within}
use Rattle.command_answers.specs.declared.answer.Answer.{Answer}
use Rattle.command_answers.specs.declared.answer.Writing.{Writing as Written}
use Rattle.command_answers.specs.declared.answer.Writing.TheVariants as written
use Rattle.command_answers.proofs.Compiling.{on_net}
use Rattle.command_answers.proofs.Ending.{all_good, ends_after, ends_before, first_before, first_gives, refused}
use Rattle.command_answers.proofs.Fitting.{files_good, files_refused}
use Rattle.command_answers.proofs.TextSteps.{Texts, on_both}

-- ---- steps of the texts that are generated, by what these steps are over those texts

all_good_of : (i : Inputs) (hosts : ℕ) (ss : List Step) → AllGood (generated hosts) ss → AllGood i (map (of_generated hosts) ss)
all_good_of i hosts [] g = none
all_good_of i hosts (s ∷ ss) (good g gs) = good g (all_good_of i hosts ss gs)

first_of : (i : Inputs) (hosts : ℕ) (P Q : Step → Type 0) → ((s : Step) → P s → Q (of_generated hosts s)) → (ss : List Step) → FirstWith (generated hosts) P ss → FirstWith i Q (map (of_generated hosts) ss)
first_of i hosts P Q f [] h = elim h [ ]
first_of i hosts P Q f (s ∷ ss) (here p) = here (f s p)
first_of i hosts P Q f (s ∷ ss) (later g h) = later g (first_of i hosts P Q f ss h)

ends_of : (i : Inputs) (hosts : ℕ) (r : Refusal) (ss : List Step) → Ends (generated hosts) (Err r) ss → Ends i (Err r) (map (of_generated hosts) ss)
ends_of i hosts r ss (no_memory m) = no_memory m
ends_of i hosts r ss (at_step h) = at_step (first_of i hosts (EndsAt (generated hosts) (Err r)) (EndsAt i (Err r)) (λ s p. p) ss h)
ends_of i hosts r ss (at_fault h) = at_fault (first_of i hosts (StopsAt (generated hosts) (Err r)) (StopsAt i (Err r)) (λ s p. p) ss h)

found_of : (i : Inputs) (hosts : ℕ) (report : Report) (w : Written) (s : Step) → IsFound (generated hosts) report w s → IsFound i report w (of_generated hosts s)
found_of i hosts report written.Nothing s h = h
found_of i hosts report (written.Own Budget bytes) s h = h
found_of i hosts report w s h = absurd h

-- ---- the folder in memory

pub written_refused : (files : List MadeFile) (was is : Option Files) (f : BundleFault) → NotWritten generated_name files was is f → WriteFaultRose None 0 0 f → NotHeld files (bundle_refusal f)
written_refused files was is (fault.Limit file) h rose = inr (file, h.0, refl)
written_refused files was is (fault.Folder file cause) h rose = absurd (let no : 0 < 0 = rose in omega (arith, no))
written_refused files was is fault.NoMemory h rose = inl refl

-- why it is not read back
pub read_refused : (files : Files) (f : ReadFault) → IsFirstFault files generated_name f → counts.ReadFaultRose None 0 0 f → (unread_as f ≡ refusal.NoMemory) ⊎ ((g : ReadFault) × IsOfFiles g × IsFirstFault files generated_name g)
read_refused files (read.Folder file Failed) h rose = absurd (let no : 0 < 0 = rose in omega (arith, no))
read_refused files (read.Folder file Wanting) h rose = inl refl
read_refused files read.NoMemory h rose = inl refl
read_refused files f h rose = inr (f, tt, h)

-- what the laws on bundles say
abbrev pub WrittenReadsBack : Type 0
WrittenReadsBack =
    (was is : Files) (out design : List ℕ) (net : NetData) (certificates : Option (List ℕ)) → Some is ≡ with_files out (bundle_of.bundle design net certificates) (Some was) → AllFit (bundle_of.bundle design net certificates) → Network is out net → ReadsAs is out net

abbrev pub OneReads : Type 0
OneReads = (files : Files) (out : List ℕ) → OneReading files out

-- what was written is read back
pub written_back : WrittenReadsBack → (was is : Files) (x : List ℕ) (net : NetData) (given certs : Option (List ℕ)) → given ≡ certs → Some is ≡ with_files generated_name (bundle_of.bundle x net given) (Some was) → AllFit (bundle_of.bundle x net given)
    → ContentHolds (Some was) (Some is) generated_name x net given → ReadsAs is generated_name net
written_back law was is x net given certs same put fit holds = law was is generated_name x net given put fit holds.network

-- and nothing else
pub not_unread : OneReads → (files : Files) (net : NetData) (fs : List MadeFile) (r : Refusal) → ReadsAs files generated_name net → (r ≡ refusal.NoMemory) ⊎ ((g : ReadFault) × IsOfFiles g × IsFirstFault files generated_name g) → NotHeld fs r
not_unread law files net fs r reads (inl m) = inl m
not_unread law files net fs r reads (inr (g, of, first)) = absurd ((law files generated_name).no_fault net g of reads first)

-- ---- the texts

pub texts_are : (hosts : ℕ) (x y : List ℕ) → x ≡ design_text → y ≡ definitions_text hosts → Texts (generated hosts) x y
unfolding generated_design generated_definitions
texts_are hosts x y d e = record { design = ap Some (sym d); defs = ap Some (sym e) }

-- ---- what is answered

abbrev pub usual : List Step
usual = compile_steps usual_conflicts usual_rounds

abbrev pub as_compile : Inputs → Result Answer Refusal → Type 0
as_compile i result = Asked (compile generated_name generated_name generated_name usual_conflicts usual_rounds) i result

abbrev pub plans_compile : (x y : List ℕ) → Written → Type 0
plans_compile x y w = Compiles generated_name x y w

-- the step on the packets
abbrev sending : (hosts packets : ℕ) → List Step
sending hosts packets = sent_within hosts packets ∷ []

-- `compile` refuses
pub refused_by : (hosts packets : ℕ) (i : Inputs) (r : Refusal) → as_compile (generated hosts) (Err r) → Asked (gen hosts packets) i (Err r)
refused_by hosts packets i r h = ends_of i hosts r (usual ++ (writing_steps ++ sending hosts packets)) (ends_before (generated hosts) (Err r) (usual ++ writing_steps) (sending hosts packets) h)

-- it ends with a verdict, or gives a search up
found_by : (hosts packets : ℕ) (i : Inputs) (answer : Answer) → FirstWith (generated hosts) (IsFound (generated hosts) answer.report answer.writing) usual → Asked (gen hosts packets) i (Ok answer)
found_by hosts packets i answer h =
    let g = generated hosts in
    inr (first_of i hosts (IsFound g answer.report answer.writing) (IsFound i answer.report answer.writing) (found_of i hosts answer.report answer.writing) (usual ++ (writing_steps ++ sending hosts packets))
    (first_before g (IsFound g answer.report answer.writing) usual (writing_steps ++ sending hosts packets) h))

-- the report of a `compile` that succeeds, whatever it is asked
compile_done : (d e o : List ℕ) (n rounds : ℕ) (i : Inputs) (report : Report) → Reports (compile d e o n rounds) i report → report.verdict ≡ verdict.Done
compile_done d e o n rounds i report k = ap (λ (r : Report). r.verdict) k.holds.holds.2

pub unfinished : (hosts packets : ℕ) (i : Inputs) (x y : List ℕ) (answer : Answer) → (plans_compile x y answer.writing → ⊥) → PlansBy (plans_compile x y) answer.report.verdict answer.writing → as_compile (generated hosts) (Ok answer) → Asked (gen hosts packets) i (Ok answer)
unfinished hosts packets i x y answer not p (inr h) = found_by hosts packets i answer h
unfinished hosts packets i x y answer not p (inl (a, k)) =
    let done = compile_done generated_name generated_name generated_name usual_conflicts usual_rounds (generated hosts) answer.report k in
    absurd (not (subst (λ (v : Verdict). PlansBy (plans_compile x y) v answer.writing) done p))

-- a bundle is written
abbrev pub IsBundle : Written → Type 0
IsBundle (written.Bundle name net certs) = Unit {0}
IsBundle w = ⊥

-- it is what `compile` writes with a success
no_found : (i : Inputs) (report : Report) (w : Written) (s : Step) → IsBundle w → IsFound i report w s → ⊥
no_found i report (written.Bundle name net certs) s b h = h
no_found i report w s b h = b

bundle_good : (hosts : ℕ) (answer : Answer) → IsBundle answer.writing → as_compile (generated hosts) (Ok answer) → AllGood (generated hosts) usual
bundle_good hosts answer b (inl (a, k)) = a
bundle_good hosts answer b (inr h) = absurd (first_gives (generated hosts) (IsFound (generated hosts) answer.report answer.writing) (λ s f. no_found (generated hosts) answer.report answer.writing s b f) usual h)

bundle_plans : (P : Written → Type 0) (v : Verdict) (w : Written) → IsBundle w → PlansBy P v w → P w
bundle_plans P verdict.Done w b p = p
bundle_plans P verdict.Budget (written.Bundle name net certs) b p = absurd p
bundle_plans P verdict.Budget w b p = absurd b
bundle_plans P v (written.Bundle name net certs) b p = absurd (let no : ◌≡◌ {A = Written} (written.Bundle name net certs) written.Nothing = p in cc)
bundle_plans P v w b p = absurd b

-- and holds certificates
pub record HasCertificates (x y : List ℕ) (net : NetData) (certs : Option (List ℕ)) : Type 0 where
  pub bytes : List ℕ
  pub are : certs ≡ Some bytes
  pub made : CompilesTexts x y net bytes

abbrev pub HoldsCertificates : (x y : List ℕ) → Written → Type 0
HoldsCertificates x y (written.Bundle name net certs) = HasCertificates x y (shared_of net) certs
HoldsCertificates x y w = ⊥

has_certificates : (x y : List ℕ) (w : Written) → plans_compile x y w → HoldsCertificates x y w
has_certificates x y (written.Bundle name net (Some bytes)) p = record { bytes = bytes; are = refl; made = p.1 }
has_certificates x y w p = absurd p

-- ---- the packets

-- the network that `compile` makes of the texts that are generated for so many hosts
pub record Made (hosts : ℕ) (x y : List ℕ) (net : NetData) (certs : List ℕ) : Type 0 where
  pub texts : Texts (generated hosts) x y
  pub made : CompilesTexts x y net certs
  pub good : AllGood (generated hosts) usual

-- it holds certificates
pub record MadeBy (hosts : ℕ) (x y : List ℕ) (net : NetData) (certs : Option (List ℕ)) : Type 0 where
  pub bytes : List ℕ
  pub are : certs ≡ Some bytes
  pub made : Made hosts x y net bytes

abbrev pub MadeIn : (hosts : ℕ) (x y : List ℕ) → Written → Type 0
MadeIn hosts x y (written.Bundle name net certs) = MadeBy hosts x y (shared_of net) certs
MadeIn hosts x y w = ⊥

to_made : (hosts : ℕ) (x y : List ℕ) (w : Written) → Texts (generated hosts) x y → AllGood (generated hosts) usual → HoldsCertificates x y w → MadeIn hosts x y w
to_made hosts x y (written.Bundle name net certs) t a h = record { bytes = h.bytes; are = h.are; made = record { texts = t; made = h.made; good = a } }
to_made hosts x y w t a h = absurd h

pub made_in : (hosts : ℕ) (x y : List ℕ) (answer : Answer) → Texts (generated hosts) x y → IsBundle answer.writing → PlansBy (plans_compile x y) answer.report.verdict answer.writing → as_compile (generated hosts) (Ok answer) → MadeIn hosts x y answer.writing
made_in hosts x y answer t b p h =
    to_made hosts x y answer.writing t (bundle_good hosts answer b h)
    (has_certificates x y answer.writing (bundle_plans (plans_compile x y) answer.report.verdict answer.writing b p))

-- why packets are not counted is no fault of a folder
pub counted_quiet : (net : NetData) (hosts packets : ℕ) (r : Refusal) → NotCounted net hosts packets r → IsQuiet r
counted_quiet net hosts packets r (inl e) = subst IsQuiet (sym e) tt
counted_quiet net hosts packets r (inr (over, e)) = subst IsQuiet (sym e) tt

-- a file is too long
pub unheld : (hosts packets : ℕ) (i : Inputs) (x y : List ℕ) (net : NetData) (certs : List ℕ) (r : Refusal) → Made hosts x y net certs → NotHeld (bundle_of.bundle x net (Some certs)) r → Asked (gen hosts packets) i (Err r)
unheld hosts packets i x y net certs r m (inl e) = no_memory (ap Err e)
unheld hosts packets i x y net certs r m (inr (file, over, e)) =
    let g = generated hosts in
    subst (λ (q : Refusal). Asked (gen hosts packets) i (Err q)) (sym e)
    (ends_of i hosts _ (usual ++ (writing_steps ++ sending hosts packets))
    (ends_after g _ usual (writing_steps ++ sending hosts packets) m.good (ends_before g _ writing_steps (sending hosts packets) (files_refused g x y net certs m.texts m.made file over))))

-- the copies of a packet make too many runs
pub unsent : (hosts packets : ℕ) (i : Inputs) (x y : List ℕ) (net : NetData) (certs : List ℕ) (r : Refusal) → Made hosts x y net certs → AllFit (bundle_of.bundle x net (Some certs)) → NotCounted net hosts packets r → Asked (gen hosts packets) i (Err r)
unsent hosts packets i x y net certs r m fit (inl e) = no_memory (ap Err e)
unsent hosts packets i x y net certs r m fit (inr (over, e)) =
    let g = generated hosts in
    ends_of i hosts r (usual ++ (writing_steps ++ sending hosts packets))
    (ends_after g (Err r) usual (writing_steps ++ sending hosts packets) m.good
    (ends_after g (Err r) writing_steps (sending hosts packets) (files_good g x y net certs m.texts m.made fit) (refused g r (sent_within hosts packets) [] (on_net g x y net m.texts m.made.lowers (over, e)))))

-- nothing is told
pub untold : (hosts packets : ℕ) (i : Inputs) (x y : List ℕ) (net : NetData) (certs : List ℕ) (r : Refusal) → Made hosts x y net certs → NotTold (bundle_of.bundle x net (Some certs)) net hosts packets r → Asked (gen hosts packets) i (Err r)
untold hosts packets i x y net certs r m (inl held) = unheld hosts packets i x y net certs r m held
untold hosts packets i x y net certs r m (inr (fit, counted)) = unsent hosts packets i x y net certs r m fit counted

pub untold_quiet : (files : List MadeFile) (net : NetData) (hosts packets : ℕ) (r : Refusal) → NotTold files net hosts packets r → IsQuiet r
untold_quiet files net hosts packets r (inl (inl e)) = subst IsQuiet (sym e) tt
untold_quiet files net hosts packets r (inl (inr (file, over, e))) = subst IsQuiet (sym e) tt
untold_quiet files net hosts packets r (inr (fit, counted)) = counted_quiet net hosts packets r counted

-- what the law on counts says
abbrev pub AsManyReached : Type 0
AsManyReached =
    (net : NetData) (design : Design) (defs : Defs) → DeliversExactly net design defs → (hosts packets count : ℕ) → IsCount (Arrives net hosts) packets count → IsCount (IsReached design defs hosts) packets count

-- all are counted
pub counted : AsManyReached → (hosts packets : ℕ) (i : Inputs) (x y : List ℕ) (net : NetData) (certs lines : List ℕ) (answer : Answer) → Made hosts x y net certs → AllFit (bundle_of.bundle x net (Some certs)) → TellsCount net hosts packets lines → answer.report ≡ success lines
    → Asked (gen hosts packets) i (Ok answer)
counted law hosts packets i x y net certs lines answer m fit tells said =
    let g = generated hosts in
    let made = m.made.lowers in
    let reached = law net made.tree (defs_of made.tree made.binds.entries) made.lowering.exact hosts packets tells.delivered tells.counts.counted in
    inl (
      all_good_of i hosts (usual ++ (writing_steps ++ sending hosts packets))
          (all_good g usual (writing_steps ++ sending hosts packets) m.good (all_good g writing_steps (sending hosts packets) (files_good g x y net certs m.texts m.made fit) (good (on_net g x y net m.texts made tells.counts.within) none))),
      on_both g x y made.tree made.binds.entries m.texts made.binds.binds (tells.delivered, reached, said ∙ ap success tells.told),
    )
