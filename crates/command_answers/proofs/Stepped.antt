-- What `step` answers over its three texts, put together from its parts.
use Rattle.std.proofs.Common.{◌≡◌, ℕ, List, [], ◌∷◌, ◌++◌, Option, Some, Err, refl, ap, ap₂, inl, inr}
use Rattle.cocoon_num.specs.Reads.{Reads}
use Rattle.cocoon_num.specs.Tree as tree
use Rattle.step_cases.specs.declared.sent.Sent.{Sent}
use Rattle.command_reports.specs.declared.report.Report.{Report}
use Rattle.command_reports.specs.declared.files.CommandFile.{CommandFile}
use Rattle.command_reports.specs.declared.files.CommandFile.TheVariants.{Case}
use Rattle.command_reports.specs.declared.refusal.Refusal.{Refusal}
use Rattle.command_reports.specs.declared.refusal.Refusal.TheVariants as refusal
use Rattle.command_line.specs.Command.{step}
use Rattle.command_answers.specs.Commands.{Reports, asks, writes}
use Rattle.command_answers.specs.Outcomes.{AllGood, none, good, Ends, no_memory}
use Rattle.command_reports.specs.Report.{success}
use Rattle.command_answers.specs.ReportLines.{sent_text}
use Rattle.command_answers.specs.Stepping.{NotCase, NotStepped, StepsTexts}
use Rattle.command_answers.specs.Steps.{Inputs, Step, level_there, lines_formed}
use Rattle.command_answers.proofs.Ending.{next, refused}
use Rattle.command_answers.proofs.TextSteps.{Texts, after_texts, not_matched, on_both, on_design, texts_good}

abbrev level_steps : ℕ → List Step
level_steps level = level_there level ∷ lines_formed level ∷ []

-- why a text is no case
not_case : (i : Inputs) (level : ℕ) (t : tree.Design) (x y z : List ℕ) (r : Refusal) → Texts i x y → Reads x t → i.file Case ≡ Some z → NotCase level t z r → Ends i (Err r) (level_steps level)
not_case i level t x y z (refusal.NoLevel n last) g is e h = refused i _ (level_there level) _ (on_design i x t g.design is (h.2, ap₂ (λ (a b : ℕ). refusal.NoLevel a b) h.0 h.1))
not_case i level t x y z (refusal.Line f line) g is e h =
    next i _ (level_there level) _ (on_design i x t g.design is h.1)
    (refused i _ (lines_formed level) _ (on_design i x t g.design is (record { text = z; is = e; holds = (line, h.2, ap (λ (q : CommandFile). refusal.Line q line) h.0) })))
not_case i level t x y z refusal.NoMemory g is e h = no_memory refl
not_case i level t x y z r g is e h = absurd h

pub not_stepped : (d e : List ℕ) (l : ℕ) (f : List ℕ) (i : Inputs) (x y z : List ℕ) (r : Refusal) → Texts i x y → i.file Case ≡ Some z → NotStepped l x y z r
    → Ends i (Err r) (asks (step d e l f) ++ writes (step d e l f))
not_stepped d e l f i x y z r g k (inl h) = not_matched i x y (level_steps l) r g h
not_stepped d e l f i x y z r g k (inr h) =
    after_texts i x y (level_steps l) h.tree h.tables _ g h.binds (not_case i l h.tree x y z r g h.binds.binds.checked.reads k h.not)

-- ---- a step that is made

pub asks_good : (d e : List ℕ) (l : ℕ) (f : List ℕ) (i : Inputs) (x y z : List ℕ) (sent : Option Sent) → Texts i x y → i.file Case ≡ Some z → StepsTexts l x y z sent → AllGood i (asks (step d e l f))
asks_good d e l f i x y z sent g k h =
    let reads = h.binds.binds.checked.reads in
    texts_good i x y (level_steps l) h.tree h.tables g h.binds
    (good (on_design i x h.tree g.design reads h.there) (good (on_design i x h.tree g.design reads (record { text = z; is = k; holds = (h.case, h.says) })) none))

pub reports : (d e : List ℕ) (l : ℕ) (f : List ℕ) (i : Inputs) (x y z : List ℕ) (sent : Option Sent) (report : Report) → Texts i x y → i.file Case ≡ Some z → StepsTexts l x y z sent
    → report ≡ success (sent_text sent) → Reports (step d e l f) i report
reports d e l f i x y z sent report g k h said =
    on_both i x y h.tree h.binds.entries g h.binds.binds (record { text = z; is = k; holds = (h.case, sent, h.says, h.steps, said) })
