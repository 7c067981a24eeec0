-- Which faults of the folder are counted and named with an answer.
use Rattle.std.proofs.Common.{◌≡◌, ℕ, List, Option, Result, Ok, Err, IsErrAnd, sym, subst}
use Rattle.command_reports.specs.FileNames.{FileNames}
use Rattle.command_reports.specs.declared.refusal.Refusal.{Refusal}
use Rattle.command_reports.specs.Report.{Fault, by_read, by_write, by_memory, no_fault, fault_of}
use Rattle.command_answers.specs.FolderCalls.{Count, CountsFault, NamesFault, Uncounted, count, Called, IsNoFault}

-- ---- answers that are passed on

pub passed : {B : Type 0} (P : Result B Refusal → Type 0) (answer : Result B Refusal) (r : Refusal) → IsErrAnd answer (λ x. x ≡ r) → P (Err r) → P answer
passed P (Ok b) r h k = absurd h
passed P (Err x) r h k = subst (λ (y : Refusal). P (Err y)) (sym h) k

-- ---- no fault

pub uncounted : (reads writes : Count) (f : Fault) → IsNoFault f → Uncounted reads → Uncounted writes → CountsFault reads writes f
uncounted reads writes (by_read file) q r w = absurd q
uncounted reads writes (by_write file) q r w = absurd q
uncounted reads writes by_memory q r w = (r, w)
uncounted reads writes no_fault q r w = (r, w)

pub unnamed : (last : List ℕ → Type 0) (names : FileNames) (f : Fault) → IsNoFault f → NamesFault last names f
unnamed last names (by_read file) q = absurd q
unnamed last names (by_write file) q = absurd q
unnamed last names f q = tt

-- ---- one call after others in which no call of the folder failed

pub counts_after : (last_read last_write : Option ℕ) (r0 r1 r2 w0 w1 w2 : ℕ) (f : Fault) → r1 ≡ r0 → w1 ≡ w0 → CountsFault (count last_read r1 r2) (count last_write w1 w2) f → CountsFault (count last_read r0 r2) (count last_write w0 w2) f
counts_after last_read last_write r0 r1 r2 w0 w1 w2 f p q h =
    subst (λ (w : ℕ). CountsFault (count last_read r0 r2) (count last_write w w2) f) q (subst (λ (r : ℕ). CountsFault (count last_read r r2) (count last_write w1 w2) f) p h)

-- the same of what is said of the calls, of an answer that is passed on
pub called_after : {A B : Type 0} (last : List ℕ → Type 0) (given names : FileNames) (last_read last_write : Option ℕ) (r0 r1 r2 w0 w1 w2 : ℕ) (r : Refusal) → given ≡ names → r1 ≡ r0 → w1 ≡ w0
    → Called {A = A} last given (count last_read r1 r2) (count last_write w1 w2) (Err r) → Called {A = B} last names (count last_read r0 r2) (count last_write w0 w2) (Err r)
called_after last given names last_read last_write r0 r1 r2 w0 w1 w2 r e p q h = record {
  counts = counts_after last_read last_write r0 r1 r2 w0 w1 w2 (fault_of r) p q h.counts;
  named = subst (λ (n : FileNames). NamesFault last n (fault_of r)) e h.named;
}

pub called_ok : {A : Type 0} (last : List ℕ → Type 0) (names : FileNames) (reads writes : Count) (answer : A) → Uncounted reads → Uncounted writes → Called {A = A} last names reads writes (Ok answer)
called_ok last names reads writes answer r w = record { counts = (r, w); named = tt }
