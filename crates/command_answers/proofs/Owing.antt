-- What is answered of the obligations of a design, as the steps on them say it.
use Rattle.std.proofs.Common.{◌≡◌, ℕ, List, ◌∷◌, Some, Err, refl, sym, ap, ap₂, subst, inl, inr}
use Rattle.cocoon_num.specs.Tree as tree
use Rattle.cocoon_num.specs.declared.limit_name.LimitName.{LimitName}
use Rattle.obligation_gen.specs.Counted.{AreFew, all_counts}
use Rattle.obligation_laws.specs.Obligations.{Kind, contained, bounded}
use Rattle.refinement.specs.Owed.{Refines}
use Rattle.command_reports.specs.DesignTexts.{ReadsChecked}
use Rattle.command_reports.specs.declared.files.CommandFile.TheVariants.{Design}
use Rattle.command_reports.specs.declared.refusal.Refusal.{Refusal}
use Rattle.command_reports.specs.declared.refusal.Refusal.TheVariants as refusal
use Rattle.command_reports.specs.declared.report.Report.{Report}
use Rattle.command_reports.specs.declared.report.Verdict.{Verdict}
use Rattle.command_reports.specs.declared.report.Verdict.TheVariants as verdict
use Rattle.command_answers.specs.Answering.{IsBudget, IsFound, PlansBy}
use Rattle.command_answers.specs.Commands.{owed_steps}
use Rattle.command_answers.specs.Outcomes.{AllGood, good, Ends, FirstWith, here, later, no_memory}
use Rattle.command_answers.specs.Refining.{IsEnded, fails, given_up as gives_up, HasManyLeaves, NotAll, NotRefined}
use Rattle.command_answers.specs.Owing.{IsGivenUpOn, by_conflicts, by_rounds, verdict_of}
use Rattle.command_answers.specs.FolderCalls.{IsQuiet}
use Rattle.command_answers.specs.Steps.{Inputs, Step, obligations_hold, trees_within}
use Rattle.command_answers.specs.declared.answer.Answer.{Answer}
use Rattle.command_answers.specs.declared.answer.Writing.{Writing as Written}
use Rattle.command_answers.specs.declared.answer.Writing.TheVariants as written
use Rattle.command_answers.proofs.Ending.{given_up, next, refused}
use Rattle.command_answers.proofs.TextSteps.{on_design}

-- each block keeps what it owes
pub refined_good : (i : Inputs) (x : List ℕ) (n m : ℕ) (rest : List Step) (t : tree.Design) → i.file Design ≡ Some x → ReadsChecked x t → AreFew (all_counts t) → Refines t → AllGood i rest → AllGood i (owed_steps n m rest)
refined_good i x n m rest t is h few refines k = good (on_design i x t is h.reads few) (good (on_design i x t is h.reads refines) k)

-- why that is not decided
too_many : (i : Inputs) (x : List ℕ) (n m : ℕ) (rest : List Step) (t : tree.Design) (r : Refusal) → i.file Design ≡ Some x → ReadsChecked x t → HasManyLeaves t r → Ends i (Err r) (owed_steps n m rest)
too_many i x n m rest t (refusal.OverLimit limit told) is h (count, over, l, e) =
    refused i _ trees_within _ (on_design i x t is h.reads (count, over, ap₂ (λ (z : LimitName) (k : ℕ). refusal.OverLimit z k) l e))
too_many i x n m rest t refusal.NoMemory is h k = no_memory refl
too_many i x n m rest t r is h k = absurd k

undecided : (i : Inputs) (x : List ℕ) (n m : ℕ) (rest : List Step) (t : tree.Design) (r : Refusal) → i.file Design ≡ Some x → ReadsChecked x t → NotAll t m r → Ends i (Err r) (obligations_hold n m ∷ rest)
undecided i x n m rest t (refusal.OverLimit limit count) is h (number, l, big) =
    given_up i _ (obligations_hold n m) rest (on_design i x t is h.reads (number, count, big, ap (λ (z : LimitName). refusal.OverLimit z count) l))
undecided i x n m rest t refusal.NoMemory is h k = no_memory refl
undecided i x n m rest t r is h k = absurd k

pub not_refined : (i : Inputs) (x : List ℕ) (n m : ℕ) (rest : List Step) (t : tree.Design) (r : Refusal) → i.file Design ≡ Some x → ReadsChecked x t → NotRefined t m r → Ends i (Err r) (owed_steps n m rest)
not_refined i x n m rest t r is h (inl k) = too_many i x n m rest t r is h k
not_refined i x n m rest t r is h (inr (few, k)) = next i (Err r) trees_within (obligations_hold n m ∷ rest) (on_design i x t is h.reads few) (undecided i x n m rest t r is h k)

-- an obligation ends the command
found : (i : Inputs) (x : List ℕ) (n m : ℕ) (t : tree.Design) (answer : Answer) → i.file Design ≡ Some x → ReadsChecked x t → IsEnded t n m answer → IsFound i answer.report answer.writing (obligations_hold n m)
found i x n m t answer is h (fails number k none) = subst (λ (w : Written). IsFound i answer.report w (obligations_hold n m)) (sym none) (on_design i x t is h.reads (number, k))
found i x n m t answer is h (gives_up bytes k own) = subst (λ (w : Written). IsFound i answer.report w (obligations_hold n m)) (sym own) (on_design i x t is h.reads k)

pub is_ended : (i : Inputs) (x : List ℕ) (n m : ℕ) (rest : List Step) (t : tree.Design) (answer : Answer) → i.file Design ≡ Some x → ReadsChecked x t → AreFew (all_counts t) → IsEnded t n m answer
    → FirstWith i (IsFound i answer.report answer.writing) (owed_steps n m rest)
is_ended i x n m rest t answer is h few k = later (on_design i x t is h.reads few) (here (found i x n m t answer is h k))

-- what is written with it, and its verdict
pub owed_budget : (d : tree.Design) (n m : ℕ) (report : Report) (bytes : List ℕ) → IsGivenUpOn d n m report bytes → report.verdict ≡ verdict.Budget
owed_budget d n m report bytes (by_conflicts number q h said) = ap (λ (r : Report). r.verdict) said
owed_budget d n m report bytes (by_rounds number h said) = ap (λ (r : Report). r.verdict) said

plans_nothing : (P : Written → Type 0) (k : Kind) → PlansBy P (verdict_of k) written.Nothing
plans_nothing P contained = refl
plans_nothing P bounded = refl

pub plans_ended : (P : Written → Type 0) (d : tree.Design) (n m : ℕ) (answer : Answer) → IsEnded d n m answer → PlansBy P answer.report.verdict answer.writing
plans_ended P d n m answer (fails number k none) =
    subst (λ (v : Verdict). PlansBy P v answer.writing) (sym k.says.verdict_) (subst (PlansBy P (verdict_of k.obligation.kind)) (sym none) (plans_nothing P k.obligation.kind))
plans_ended P d n m answer (gives_up bytes k own) =
    subst (λ (v : Verdict). PlansBy P v answer.writing) (sym (owed_budget d n m answer.report bytes k)) (subst IsBudget (sym own) tt)

-- a refusal is about no fault of the folder
many_quiet : (d : tree.Design) (r : Refusal) → HasManyLeaves d r → IsQuiet r
many_quiet d (refusal.OverLimit limit told) k = tt
many_quiet d refusal.NoMemory k = tt
many_quiet d r k = absurd k

undecided_quiet : (d : tree.Design) (m : ℕ) (r : Refusal) → NotAll d m r → IsQuiet r
undecided_quiet d m (refusal.OverLimit limit count) k = tt
undecided_quiet d m refusal.NoMemory k = tt
undecided_quiet d m r k = absurd k

pub refined_quiet : (d : tree.Design) (m : ℕ) (r : Refusal) → NotRefined d m r → IsQuiet r
refined_quiet d m r (inl k) = many_quiet d r k
refined_quiet d m r (inr (few, k)) = undecided_quiet d m r k
