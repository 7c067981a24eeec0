-- Where a command that decides obligations succeeds, the design of its file keeps the rules, and each of its blocks what it
-- owes.
use Rattle.std.proofs.Common.{◌≡◌, ℕ, List, ◌∷◌, Option, Some, None, refl, sym, ap, subst, ◌∙◌}
use Rattle.std.specs.FinMap.{get}
use Rattle.std.specs.Prelude.{option_and_then}
use Rattle.cocoon_io.specs.Files.{Files}
use Rattle.cocoon_num.specs.Reads.{Reads}
use Rattle.cocoon_num.specs.Tree as tree
use Rattle.cocoon_types.specs.Rules.{WellFormed}
use Rattle.refinement.specs.Owed.{Refines}
use Rattle.command_line.specs.Command.{Command, check, compile, update, step, forward, gen}
use Rattle.command_reports.specs.FileNames.{name_of}
use Rattle.command_reports.specs.declared.files.CommandFile.TheVariants.{Design}
use Rattle.command_reports.specs.declared.status.Status.{Status}
use Rattle.command_reports.specs.declared.status.Status.TheVariants.{Done, Usage}
use Rattle.command_answers.specs.Commands.{files_of}
use Rattle.command_answers.specs.Outcomes.{AllGood, good, steps}
use Rattle.command_answers.specs.Steps.{Inputs, OfDesign, Step, IsGood}
use Rattle.cocoon_cli.specs.Checked.{Checked, CheckedFile, RefinedOf}
use Rattle.cocoon_cli.specs.Run.{Call, CauseOf, InputsAre}
use Rattle.cocoon_cli.proofs.OneStep.{same_some}
use Rattle.cocoon_cli.proofs.Running.{no_command, success_of}

abbrev pub OneTree : Type 0
OneTree = (text : List ℕ) (x y : tree.Design) → Reads text x → Reads text y → x ≡ y

head_good : {i : Inputs} {s : Step} {ss : List Step} → AllGood i (s ∷ ss) → IsGood i s
head_good (good g gs) = g

tail_good : {i : Inputs} {s : Step} {ss : List Step} → AllGood i (s ∷ ss) → AllGood i ss
tail_good (good g gs) = gs

-- what two steps say of the design is said of one
checked : OneTree → (i : Inputs) → OfDesign i (λ _ d. WellFormed d) → (r : OfDesign i (λ _ d. Refines d)) → Checked r.text
checked one i w r =
    let same = same_some (i.file Design) w.text r.text w.is r.is in
    let design = one r.text w.design r.design (subst (λ (t : List ℕ). Reads t w.design) same w.reads) r.reads in
    record { design = r.design; reads = r.reads; well_formed = subst WellFormed design w.holds; refines = r.holds }

checked_file : OneTree → (c : Command) (name : List ℕ) (content : Option Files) (i : Inputs) → InputsAre (files_of c) content i → name_of (files_of c) Design ≡ Some name → OfDesign i (λ _ d. WellFormed d) → OfDesign i (λ _ d. Refines d)
    → CheckedFile name content
checked_file one c name None i are named w r = tt
checked_file one c name (Some files) i are named w r = (
  r.text,
  ap (option_and_then (get files)) (sym named) ∙ (ap (λ (j : Inputs). j.file Design) (sym are) ∙ r.is),
  checked one i w r,
)

refined_by : OneTree → (c : Command) (content : Option Files) (i : Inputs) → InputsAre (files_of c) content i → AllGood i (steps c) → RefinedOf (Some c) content
refined_by one (check d n rounds) content i are g =
    let rules = tail_good (tail_good (tail_good g)) in
    let owed = tail_good (tail_good (tail_good rules)) in
    checked_file one (check d n rounds) d content i are refl (head_good rules) (head_good owed)
refined_by one (compile d e o n rounds) content i are g =
    let rules = tail_good (tail_good (tail_good (tail_good (tail_good g)))) in
    let owed = tail_good (tail_good (tail_good (tail_good (tail_good (tail_good (tail_good rules)))))) in
    checked_file one (compile d e o n rounds) d content i are refl (head_good rules) (head_good owed)
refined_by one (update d e o n) content i are g =
    let rules = tail_good (tail_good (tail_good (tail_good (tail_good g)))) in
    let owed = head_good (tail_good (tail_good (tail_good (tail_good (tail_good (tail_good (tail_good (tail_good (tail_good rules))))))))) in
    checked_file one (update d e o n) d content i are refl (head_good rules)
    (record { text = owed.text; is = owed.is; design = owed.design; reads = owed.reads; holds = owed.holds.holds.1 })
refined_by one (step d e l f) content i are g = tt
refined_by one (forward o p n) content i are g = tt
refined_by one (gen hosts packets) content i are g = tt

pub refined_of : OneTree → (c : Option Command) (call : Call) → CauseOf c call → call.status ≡ Done → RefinedOf c call.content_before
refined_of one None call h done = let no : ◌≡◌ {A = Status} Done Usage = no_command call Done tt h done in cc
refined_of one (Some c) call h done =
    let is = success_of (Some c) call h done in
    refined_by one c call.content_before is.0 is.2 is.4.1.0

-- the same of the command that was read of the words
pub refined_words : (c : Command) (o : Option Command) (content : Option Files) → Some c ≡ o → RefinedOf (Some c) content → RefinedOf o content
refined_words c o content same h = subst (λ (d : Option Command). RefinedOf d content) same h
