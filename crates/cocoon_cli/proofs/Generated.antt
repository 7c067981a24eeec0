-- What a `gen` that succeeds prints.
use Rattle.std.proofs.Common.{◌≡◌, ℕ, List, ◌∷◌, Option, Some, None, refl, sym, ap, subst, ◌∙◌}
use Rattle.cocoon_io.specs.Files.{Files}
use Rattle.cocoon_num.specs.Reads.{Reads, ReadsDefs}
use Rattle.cocoon_num.specs.Tree as tree
use Rattle.cocoon_types.specs.DefsRules.{DefsFit}
use Rattle.cocoon_types.specs.Rules.{WellFormed}
use Rattle.command_line.specs.Command.{Command, check, compile, update, step, forward, gen}
use Rattle.command_reports.specs.declared.files.CommandFile.TheVariants.{Definitions, Design}
use Rattle.command_reports.specs.declared.report.Report.{Report}
use Rattle.command_reports.specs.declared.status.Status.{Status}
use Rattle.command_reports.specs.declared.status.Status.TheVariants.{Done, Usage}
use Rattle.command_answers.specs.Commands.{Reports, asks}
use Rattle.command_answers.specs.Outcomes.{AllGood, good}
use Rattle.command_answers.specs.Steps.{Inputs, OfBoth, OfDesign, Step, IsGood, generated, generated_definitions, generated_design}
use Rattle.command_answers.specs.Writing.{with_writing}
use Rattle.cocoon_cli.specs.Generated.{Generated, GeneratedOf}
use Rattle.cocoon_cli.specs.Run.{Call, CauseOf, DoneOf}
use Rattle.cocoon_cli.proofs.OneStep.{same_some}
use Rattle.cocoon_cli.proofs.Refined.{OneTree}
use Rattle.cocoon_cli.proofs.Running.{no_command, success_of}

abbrev pub OneDefsTree : Type 0
OneDefsTree = (text : List ℕ) (x y : tree.DefsText) → ReadsDefs text x → ReadsDefs text y → x ≡ y

head_good : {i : Inputs} {s : Step} {ss : List Step} → AllGood i (s ∷ ss) → IsGood i s
head_good (good g gs) = g

tail_good : {i : Inputs} {s : Step} {ss : List Step} → AllGood i (s ∷ ss) → AllGood i ss
tail_good (good g gs) = gs

-- the text of a design that is read of those that are generated, and that of definitions
design_is : (hosts : ℕ) (text : List ℕ) → (generated hosts).file Design ≡ Some text → text ≡ generated_design
design_is hosts text is = same_some ((generated hosts).file Design) text generated_design is refl

defs_are : (hosts : ℕ) (text : List ℕ) → (generated hosts).file Definitions ≡ Some text → text ≡ generated_definitions hosts
defs_are hosts text is = same_some ((generated hosts).file Definitions) text (generated_definitions hosts) is refl

-- what is said of the trees of both is said of one of each
told : OneTree → OneDefsTree → (hosts packets : ℕ) (report : Report) → OfDesign (generated hosts) (λ _ d. WellFormed d) → OfBoth (generated hosts) DefsFit → Reports (gen hosts packets) (generated hosts) report → Generated hosts packets report.lines
told one one_defs hosts packets report w f k =
    let d = k.design in
    let e = k.holds.defs in
    let reads : Reads generated_design d = subst (λ (t : List ℕ). Reads t d) (design_is hosts k.text k.is) k.reads in
    let read : ReadsDefs (generated_definitions hosts) e = subst (λ (t : List ℕ). ReadsDefs t e) (defs_are hosts k.holds.text k.holds.are) k.holds.read in
    let rules : w.design ≡ d = one generated_design w.design d (subst (λ (t : List ℕ). Reads t w.design) (design_is hosts w.text w.is) w.reads) reads in
    let fit : f.design ≡ d = one generated_design f.design d (subst (λ (t : List ℕ). Reads t f.design) (design_is hosts f.text f.is) f.reads) reads in
    let defs : f.holds.defs ≡ e = one_defs (generated_definitions hosts) f.holds.defs e (subst (λ (t : List ℕ). ReadsDefs t f.holds.defs) (defs_are hosts f.holds.text f.holds.are) f.holds.read) read in
    let (delivered, counts, said) = k.holds.holds in
    record {
      design = d;
      entries = e;
      design_reads = reads;
      well_formed = subst WellFormed rules w.holds;
      defs_read = read;
      defs_fit = subst (λ (x : tree.DefsText). DefsFit d x) defs (subst (λ (x : tree.Design). DefsFit x f.holds.defs) fit f.holds.holds);
      delivered = delivered;
      counts = counts;
      told = ap (λ (r : Report). r.lines) said;
    }

by_success : OneTree → OneDefsTree → (hosts packets : ℕ) (call : Call) → DoneOf (Some (gen hosts packets)) call → GeneratedOf (Some (gen hosts packets)) call.content_before call.content_after call.output_before call.output_after
by_success one one_defs hosts packets call (i, report, are, reports, (w, (goods, is), stands), printed) =
    let rules = tail_good goods in
    let fit = tail_good (tail_good (tail_good rules)) in
    (report.lines, told one one_defs hosts packets report (head_good rules) (head_good fit) reports, printed, stands ∙ ap (λ x. with_writing x call.content_before) is)

generated_by : OneTree → OneDefsTree → (c : Command) (call : Call) → DoneOf (Some c) call → GeneratedOf (Some c) call.content_before call.content_after call.output_before call.output_after
generated_by one one_defs (gen hosts packets) call h = by_success one one_defs hosts packets call h
generated_by one one_defs c call h = tt

pub generated_of : OneTree → OneDefsTree → (c : Option Command) (call : Call) → CauseOf c call → call.status ≡ Done → GeneratedOf c call.content_before call.content_after call.output_before call.output_after
generated_of one one_defs None call h done = let no : ◌≡◌ {A = Status} Done Usage = no_command call Done tt h done in cc
generated_of one one_defs (Some c) call h done = generated_by one one_defs c call (success_of (Some c) call h done)

-- the same of the command that was read of the words
pub generated_words : (c : Command) (o : Option Command) (was is : Option Files) (before after : Option (List ℕ)) → Some c ≡ o → GeneratedOf (Some c) was is before after → GeneratedOf o was is before after
generated_words c o was is before after same h = subst (λ (d : Option Command). GeneratedOf d was is before after) same h
