-- What is answered of the assumptions under tables, as the step on them says it of the definitions of a text.
use Rattle.std.proofs.Common.{◌≡◌, ℕ, List, ◌∷◌, Option, Some, None, Err, refl, sym, ap, subst}
use Rattle.cocoon_num.specs.Tree.{AssumeDecl, Design}
use Rattle.cocoon_num.specs.declared.limit_name.LimitName.{LimitName}
use Rattle.cocoon_types.specs.Design.{last_level}
use Rattle.cocoon_types.specs.Tables.{Defs, defs_of}
use Rattle.refinement.specs.Assumptions.{Meets}
use Rattle.runtime_defs.specs.Places.{Places}
use Rattle.sound_types.specs.Defined.{HasDefinitions}
use Rattle.sound_types.specs.Literals.{DesignLiteralsFit}
use Rattle.discharge.specs.Meeting.{IsFalseAt, IsTold, OfTables}
use Rattle.command_reports.specs.DesignTexts.{BindsTables}
use Rattle.command_reports.specs.declared.refusal.Refusal.{Refusal}
use Rattle.command_reports.specs.declared.refusal.Refusal.TheVariants as refusal
use Rattle.command_answers.specs.Answering.{IsFound}
use Rattle.command_answers.specs.Assumed.{IsBig, IsBroken, IsSpent, OfAssumption}
use Rattle.command_answers.specs.Commands.{text_steps}
use Rattle.command_answers.specs.Deciding.{AnswersSpent, AnswersUnmet, NotMet}
use Rattle.command_answers.specs.Outcomes.{Ends, FirstWith, here, no_memory}
use Rattle.command_answers.specs.Steps.{Inputs, Step, IsGood, Spends, assumptions_met}
use Rattle.command_answers.specs.declared.answer.Answer.{Answer}
use Rattle.command_answers.specs.declared.answer.Writing.{Writing as Written}
use Rattle.command_answers.proofs.Ending.{given_up, refused}
use Rattle.command_answers.proofs.TextSteps.{Texts, after_texts, on_both, texts_first}

-- the definitions of the text of two
defined : {x y : List ℕ} {d : Design} {tables : Places} → DesignLiteralsFit d → (b : BindsTables x y d tables) → HasDefinitions d b.entries
defined l b = record { rules = b.binds.checked.resolves.rules; literals = l; fits = b.binds.fits; values_fit = b.are.fit }

pub of_text : {x y : List ℕ} {d : Design} {tables : Places} (P : Defs → Type 0) → DesignLiteralsFit d → (b : BindsTables x y d tables) → OfTables d tables P → P (defs_of d b.entries)
of_text P l b h = h b.entries (defined l b) b.are.stand

-- what is said of one assumption
said : {x y : List ℕ} {d : Design} {tables : Places} {P Q : AssumeDecl → Type 0} (number : ℕ) → DesignLiteralsFit d → (b : BindsTables x y d tables) → ((a : AssumeDecl) → P a → Q a) → IsTold d tables number P
    → OfAssumption d (defs_of d b.entries) number Q
said number l b f h = record { assumption = h.assumption; is = h.is; says = f h.assumption h.said; earlier = h.earlier b.entries (defined l b) b.are.stand }

-- ---- the step

pub met_good : (i : Inputs) (x y : List ℕ) (n : ℕ) (t : Design) (p : Places) → Texts i x y → (b : BindsTables x y t p) → Meets (last_level t) t (defs_of t b.entries) → IsGood i (assumptions_met n)
met_good i x y n t p g b met = on_both i x y t b.entries g b.binds met

-- why `compile` stops
pub not_met : (i : Inputs) (x y : List ℕ) (rest : List Step) (n : ℕ) (t : Design) (p : Places) (r : Refusal) → Texts i x y → BindsTables x y t p → DesignLiteralsFit t → NotMet t p n r
    → Ends i (Err r) (text_steps (assumptions_met n ∷ rest))
not_met i x y rest n t p (refusal.Broken number values) g b l h =
    let broken : IsBroken t (defs_of t b.entries) number values = said number l b (λ a k. of_text (λ defs. IsFalseAt t defs a values) l b k) h in
    after_texts i x y (assumptions_met n ∷ rest) t p _ g b (refused i _ (assumptions_met n) rest (on_both i x y t b.entries g b.binds (number, values, broken, refl)))
not_met i x y rest n t p (refusal.OverLimit limit count) g b l h =
    let big : IsBig t b.entries h.0 count = record { tables = p; are = b.are; big = said h.0 l b (λ a k. k) h.2 } in
    after_texts i x y (assumptions_met n ∷ rest) t p _ g b
    (given_up i _ (assumptions_met n) rest (on_both i x y t b.entries g b.binds (h.0, count, big, ap (λ (z : LimitName). refusal.OverLimit z count) h.1)))
not_met i x y rest n t p refusal.NoMemory g b l h = no_memory refl
not_met i x y rest n t p r g b l h = absurd h

-- a search that was given up
pub spends : (i : Inputs) (x y : List ℕ) (n : ℕ) (t : Design) (p : Places) (answer : Answer) → Texts i x y → BindsTables x y t p → DesignLiteralsFit t → (h : AnswersSpent t p n answer) → Spends i (assumptions_met n) answer.report h.tells.bytes
spends i x y n t p answer g b l h =
    let spent : IsSpent t b.entries n h.number h.tells.bytes = record {
      tables = p;
      are = b.are;
      vars = h.vars;
      log = h.log;
      spent = said h.number l b (λ a k. k) h.spent;
      file = h.tells.file;
    } in
    on_both i x y t b.entries g b.binds (h.number, spent, h.tells.told)

pub is_found : (i : Inputs) (x y : List ℕ) (rest : List Step) (n : ℕ) (t : Design) (p : Places) (answer : Answer) → Texts i x y → BindsTables x y t p → DesignLiteralsFit t → AnswersSpent t p n answer
    → FirstWith i (IsFound i answer.report answer.writing) (text_steps (assumptions_met n ∷ rest))
is_found i x y rest n t p answer g b l h =
    let found : IsFound i answer.report answer.writing (assumptions_met n) =
    subst (λ (w : Written). IsFound i answer.report w (assumptions_met n)) (sym h.tells.written) (spends i x y n t p answer g b l h) in
    texts_first i x y (assumptions_met n ∷ rest) t p (IsFound i answer.report answer.writing) g b (here found)

pub is_none : {A : Type 0} (o : Option A) → ((a : A) → o ≡ Some a → ⊥) → o ≡ None
is_none None h = refl
is_none (Some a) h = absurd (h a refl)

-- where nothing is answered
pub all_met_good : (i : Inputs) (x y : List ℕ) (n : ℕ) (t : Design) (p : Places) (answer : Option Answer) → Texts i x y → BindsTables x y t p → DesignLiteralsFit t → answer ≡ None → AnswersUnmet t p n answer → IsGood i (assumptions_met n)
all_met_good i x y n t p answer g b l none h = met_good i x y n t p g b (of_text (Meets (last_level t) t) l b (subst (AnswersUnmet t p n) none h))
