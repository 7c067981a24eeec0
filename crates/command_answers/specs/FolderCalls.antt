-- Cited by the clauses of the commands that are handed a folder, and in cocoon_cli by those of reading.rt, writing.rt and shell.rt
-- and by `keeps` of `run`. Which fault of the folder an answer speaks of: that it was counted, and no other, and which file it
-- is about.
use Rattle.std.specs.Prelude.{◌≡◌, ℕ, List, Option, Some, Result}
use Rattle.cocoon_io.specs.Calls.{Rose}
use Rattle.command_reports.specs.FileNames.{FileNames, HasName}
use Rattle.command_reports.specs.Report.{Fault, by_read, by_write, by_memory, no_fault, fault_in, fault_of}
use Rattle.command_reports.specs.declared.refusal.Refusal.{Refusal}

-- ---- counts of faults

-- a count of faults before and after a call, and its last value, if it has one
pub record Count : Type 0 where
  pub last : Option ℕ
  pub before : ℕ
  pub after : ℕ

abbrev pub count : Option ℕ → (before after : ℕ) → Count
count last before after = record { last = last; before = before; after = after }

-- a fault was counted
abbrev pub Counted : Count → Type 0
Counted count = Rose count.last count.before count.after

-- none was
abbrev pub Uncounted : Count → Type 0
Uncounted count = count.after ≡ count.before

-- The fault of the folder that an outcome speaks of was counted, and no other was.
abbrev pub CountsFault : (reads writes : Count) → Fault → Type 0
CountsFault reads writes (by_read file) = Counted reads × Uncounted writes
CountsFault reads writes (by_write file) = Uncounted reads × Counted writes
CountsFault reads writes by_memory = Uncounted reads × Uncounted writes
CountsFault reads writes no_fault = Uncounted reads × Uncounted writes

-- a fault of the folder is about the file of its last call that failed
abbrev pub NamesFault : (List ℕ → Type 0) → FileNames → Fault → Type 0
NamesFault last_failure names (by_read file) = HasName names file last_failure
NamesFault last_failure names (by_write file) = HasName names file last_failure
NamesFault last_failure names fault = Unit {0}

-- ---- refusals

-- it is no failed write
abbrev pub IsReading : Fault → Type 0
IsReading (by_write file) = ⊥
IsReading fault = Unit {0}

-- it is no fault of the folder
abbrev pub IsNoFault : Fault → Type 0
IsNoFault (by_read file) = ⊥
IsNoFault (by_write file) = ⊥
IsNoFault fault = Unit {0}

-- a refusal is about no fault of the folder
abbrev pub IsQuiet : Refusal → Type 0
IsQuiet r = IsNoFault (fault_of r)

-- ---- an answer

-- The fault that the answer speaks of was counted, and no other, and it is about the file of the last
-- call that failed.
pub record Called {A : Type 0} (last_failure : List ℕ → Type 0) (names : FileNames)
    (reads writes : Count) (answer : Result A Refusal) : Type 0 where
  pub counts : CountsFault reads writes (fault_in answer)
  pub named : NamesFault last_failure names (fault_in answer)

-- the same of calls on files of the bundle of this name, whatever other files the command has
abbrev pub CalledUnder : {A : Type 0} → (last_failure : List ℕ → Type 0) → (out : List ℕ)
    → (reads writes : Count) → Result A Refusal → Type 0
CalledUnder last_failure out reads writes answer =
    (names : FileNames) → names.bundle ≡ Some out → Called last_failure names reads writes answer
