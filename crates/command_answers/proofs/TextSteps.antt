-- The steps on the texts of a design and its definitions, by what the functions on these texts answer.
use Rattle.std.proofs.Common.{◌≡◌, ◌<◌, ℕ, List, [], ◌∷◌, Some, Result, Err, refl, ap, ap₂, subst, inl, inr}
use Rattle.cocoon_num.specs.Reads.{Reads, ReadsDefs}
use Rattle.cocoon_num.specs.Tree as tree
use Rattle.cocoon_num.specs.declared.limit_name.LimitName.{LimitName}
use Rattle.cocoon_text.specs.declared.position.Position.{Position}
use Rattle.runtime_defs.specs.Bound.{most_rows, row_count}
use Rattle.runtime_defs.specs.Places.{Places}
use Rattle.command_reports.specs.declared.files.CommandFile.TheVariants.{Design, Definitions}
use Rattle.command_reports.specs.declared.refusal.InputFault.TheVariants.{NoTree, Rule}
use Rattle.command_reports.specs.declared.refusal.DefinitionsFault.TheVariants as definitions
use Rattle.command_reports.specs.declared.refusal.Refusal.{Refusal}
use Rattle.command_reports.specs.declared.refusal.Refusal.TheVariants as refusal
use Rattle.command_reports.specs.declared.report.Report.{Report}
use Rattle.command_answers.specs.Commands.{design_steps, text_steps}
use Rattle.command_reports.specs.DesignTexts.{Binds, BindsTables, NotBound, NotChecked, NotMatched, NotRead, ReadsChecked}
use Rattle.command_answers.specs.Outcomes.{AllGood, none, good, Ends, FirstWith, later, no_memory}
use Rattle.command_answers.specs.Steps.{Inputs, OfDesign, OfDefinitions, Step, design_reads, design_well_formed, design_within, definitions_read, definitions_fit, definitions_within}
use Rattle.command_answers.proofs.Ending.{all_good, ends_after, first_after, next, refused}

-- the two texts of a command
pub record Texts (i : Inputs) (x y : List ℕ) : Type 0 where
  pub design : i.file Design ≡ Some x
  pub defs : i.file Definitions ≡ Some y

-- what holds of them
pub on_design : {P : List ℕ → tree.Design → Type 0} (i : Inputs) (x : List ℕ) (t : tree.Design) → i.file Design ≡ Some x → Reads x t → P x t → OfDesign i P
on_design i x t is h p = record { text = x; is = is; design = t; reads = h; holds = p }

pub on_defs : {P : List ℕ → tree.DefsText → Type 0} (i : Inputs) (x y : List ℕ) (es : tree.DefsText) → Texts i x y → ReadsDefs y es → P y es → OfDefinitions i P
on_defs i x y es g h p = record { text = y; are = g.defs; defs = es; read = h; holds = p }

pub on_both : {P : List ℕ → tree.Design → List ℕ → tree.DefsText → Type 0} (i : Inputs) (x y : List ℕ) (t : tree.Design) (es : tree.DefsText) → Texts i x y → Binds x y t es → P x t y es
    → OfDesign i (λ a d. OfDefinitions i (λ b e. P a d b e))
on_both i x y t es g h p = on_design i x t g.design h.checked.reads (on_defs i x y es g h.read p)

-- the steps on definitions, and those after them
abbrev defs_steps : List Step → List Step
defs_steps rest = definitions_read ∷ definitions_fit ∷ definitions_within ∷ rest

-- ---- good steps

design_good : (i : Inputs) (x : List ℕ) (t : tree.Design) → i.file Design ≡ Some x → ReadsChecked x t → AllGood i (design_steps [])
design_good i x t is h = good (on_design i x t is h.reads tt) (good (on_design i x t is h.reads h.resolves.rules) (good (on_design i x t is h.reads h.resolves.limits) none))

-- of a design
pub checked_good : (i : Inputs) (x : List ℕ) (rest : List Step) (t : tree.Design) → i.file Design ≡ Some x → ReadsChecked x t → AllGood i rest → AllGood i (design_steps rest)
checked_good i x rest t is h k = all_good i (design_steps []) rest (design_good i x t is h) k

pub checked_first : (i : Inputs) (x : List ℕ) (rest : List Step) (t : tree.Design) (P : Step → Type 0) → i.file Design ≡ Some x → ReadsChecked x t → FirstWith i P rest → FirstWith i P (design_steps rest)
checked_first i x rest t P is h k = first_after i P (design_steps []) rest (design_good i x t is h) k

pub after_checked : (i : Inputs) (x : List ℕ) (rest : List Step) (t : tree.Design) (outcome : Result Report Refusal) → i.file Design ≡ Some x → ReadsChecked x t → Ends i outcome rest → Ends i outcome (design_steps rest)
after_checked i x rest t outcome is h k = ends_after i outcome (design_steps []) rest (design_good i x t is h) k

-- of a design and definitions
after_read : (i : Inputs) (x y : List ℕ) (rest : List Step) (t : tree.Design) (es : tree.DefsText) (outcome : Result Report Refusal) → Texts i x y → ReadsChecked x t → ReadsDefs y es
    → Ends i outcome (definitions_fit ∷ definitions_within ∷ rest) → Ends i outcome (text_steps rest)
after_read i x y rest t es outcome g h d k = after_checked i x (defs_steps rest) t outcome g.design h (next i outcome definitions_read _ (on_defs i x y es g d tt) k)

after_fit : (i : Inputs) (x y : List ℕ) (rest : List Step) (t : tree.Design) (es : tree.DefsText) (outcome : Result Report Refusal) → Texts i x y → Binds x y t es → Ends i outcome (definitions_within ∷ rest) → Ends i outcome (text_steps rest)
after_fit i x y rest t es outcome g h k = after_read i x y rest t es outcome g h.checked h.read (next i outcome definitions_fit _ (on_both i x y t es g h h.fits) k)

pub after_texts : (i : Inputs) (x y : List ℕ) (rest : List Step) (t : tree.Design) (p : Places) (outcome : Result Report Refusal) → Texts i x y → BindsTables x y t p → Ends i outcome rest → Ends i outcome (text_steps rest)
after_texts i x y rest t p outcome g h k =
    after_fit i x y rest t h.entries outcome g h.binds (next i outcome definitions_within rest (on_defs i x y h.entries g h.binds.read h.are.bound.few) k)

pub texts_good : (i : Inputs) (x y : List ℕ) (rest : List Step) (t : tree.Design) (p : Places) → Texts i x y → BindsTables x y t p → AllGood i rest → AllGood i (text_steps rest)
texts_good i x y rest t p g h k =
    let es = h.entries in
    checked_good i x (defs_steps rest) t g.design h.binds.checked
    (good (on_defs i x y es g h.binds.read tt) (good (on_both i x y t es g h.binds h.binds.fits) (good (on_defs i x y es g h.binds.read h.are.bound.few) k)))

-- one of the steps after them, of which this holds
pub texts_first : (i : Inputs) (x y : List ℕ) (rest : List Step) (t : tree.Design) (p : Places) (P : Step → Type 0) → Texts i x y → BindsTables x y t p → FirstWith i P rest → FirstWith i P (text_steps rest)
texts_first i x y rest t p P g h k =
    let es = h.entries in
    checked_first i x (defs_steps rest) t P g.design h.binds.checked
    (later (on_defs i x y es g h.binds.read tt) (later (on_both i x y t es g h.binds h.binds.fits) (later (on_defs i x y es g h.binds.read h.are.bound.few) k)))

-- ---- refusals

-- why a design is not read
pub not_checked : (i : Inputs) (x : List ℕ) (rest : List Step) (r : Refusal) → i.file Design ≡ Some x → NotChecked x r → Ends i (Err r) (design_steps rest)
not_checked i x rest (refusal.Language (NoTree f)) is h = refused i _ design_reads _ (record { text = x; is = is; holds = (f, h, refl) })
not_checked i x rest (refusal.Language (Rule rule p)) is (t, token, reads, first, at) =
    next i _ design_reads _ (on_design i x t is reads tt) (refused i _ design_well_formed _ (on_design i x t is reads (rule, token, first, ap (λ (q : Position). refusal.Language (Rule rule q)) at)))
not_checked i x rest (refusal.OverLimit l n) is (t, reads, rules, over) =
    next i _ design_reads _ (on_design i x t is reads tt)
    (next i _ design_well_formed _ (on_design i x t is reads rules) (refused i _ design_within _ (on_design i x t is reads (l, n, over, refl))))
not_checked i x rest refusal.NoMemory is h = no_memory refl
not_checked i x rest r is h = absurd h

-- why definitions are not read
not_read : (i : Inputs) (x y : List ℕ) (rest : List Step) (t : tree.Design) (r : Refusal) → Texts i x y → ReadsChecked x t → NotRead y r → Ends i (Err r) (text_steps rest)
not_read i x y rest t (refusal.Definitions (definitions.NoTree f)) g k h =
    after_checked i x (defs_steps rest) t _ g.design k (refused i _ definitions_read _ (record { text = y; is = g.defs; holds = (f, h, refl) }))
not_read i x y rest t refusal.NoMemory g k h = no_memory refl
not_read i x y rest t r g k h = absurd h

-- why they are not bound
not_bound : (i : Inputs) (x y : List ℕ) (rest : List Step) (r : Refusal) → Texts i x y → NotBound x y r → Ends i (Err r) (text_steps rest)
not_bound i x y rest (refusal.Definitions f) g h =
    after_read i x y rest h.tree h.entries _ g h.checked h.read
    (refused i _ definitions_fit _ (on_design i x h.tree g.design h.checked.reads (on_defs i x y h.entries g h.read (h.first, h.is_first, ap refusal.Definitions h.is_told))))
not_bound i x y rest (refusal.OverLimit l n) g h =
    let over : most_rows < row_count h.entries = subst (λ (m : ℕ). most_rows < m) h.counted h.over in
    after_fit i x y rest h.tree h.entries _ g h.binds
    (refused i _ definitions_within _ (on_defs i x y h.entries g h.binds.read (over, ap₂ (λ (z : LimitName) (m : ℕ). refusal.OverLimit z m) h.name h.counted)))
not_bound i x y rest refusal.NoMemory g h = no_memory refl
not_bound i x y rest r g h = absurd h

pub not_matched : (i : Inputs) (x y : List ℕ) (rest : List Step) (r : Refusal) → Texts i x y → NotMatched x y r → Ends i (Err r) (text_steps rest)
not_matched i x y rest r g (inl h) = not_checked i x _ r g.design h
not_matched i x y rest r g (inr (inl h)) = not_read i x y rest h.tree r g h.checked h.unread
not_matched i x y rest r g (inr (inr h)) = not_bound i x y rest r g h
