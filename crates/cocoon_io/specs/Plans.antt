-- Folders and sinks that fail at planned calls; cited by clauses of `MemFolder`, `MemSink`, `Plan`.
use Rattle.std.specs.Prelude.{ℕ, ◌+◌, ◌-◌, ◌^◌, Bool, ◌&&◌, if◌then◌else◌, nat_lt, nat_eq, min, List, refl}
use Rattle.std.specs.List.{list_any}
use Rattle.std.specs.Coded.{Coded, code_by, coded×, coded_ℕ, coded_list}
use Rattle.cocoon_io.specs.Files.{Files}
use Rattle.cocoon_io.specs.CodedFiles.{coded_files}

-- the numbers of the calls that fail, counted from 1, and how many calls there were
pub record PlannedCalls : Type 0 where
  pub failing : List ℕ
  pub calls : ℕ

-- the number of the last call that may fail
abbrev pub last_call : ℕ
last_call = 2 ^ 64 - 1

-- whether the next call fails
abbrev pub fails_next : PlannedCalls → Bool
fails_next plan =
    nat_lt plan.calls last_call && list_any (λ n. nat_eq n (plan.calls + 1)) plan.failing

-- the plan after one more call; the count of calls stays at its last value
abbrev pub after_call : PlannedCalls → PlannedCalls
after_call plan = record plan { calls = min (plan.calls + 1) last_call }

-- a folder that fails at planned calls: its files, its plan, and how many reads and writes failed
pub record PlannedFolder : Type 0 where
  pub files : Files
  pub plan : PlannedCalls
  pub read_faults : ℕ
  pub write_faults : ℕ

-- a sink that fails at planned calls: its output, its plan, and how many puts failed
pub record PlannedSink : Type 0 where
  pub output : List ℕ
  pub plan : PlannedCalls
  pub faults : ℕ

-- a count of faults after the next call
abbrev pub faults_after : PlannedCalls → ℕ → ℕ
faults_after plan faults = if fails_next plan then faults + 1 else faults

-- the folder after a read
abbrev pub after_read : PlannedFolder → PlannedFolder
after_read folder = record folder {
  plan = after_call folder.plan;
  read_faults = faults_after folder.plan folder.read_faults;
}

-- the folder after a write that left these files
abbrev pub after_write : PlannedFolder → Files → PlannedFolder
after_write folder files = record folder {
  files = files;
  plan = after_call folder.plan;
  write_faults = faults_after folder.plan folder.write_faults;
}

-- the sink after a put that left these bytes
abbrev pub after_put : PlannedSink → List ℕ → PlannedSink
after_put sink output = record sink {
  output = output;
  plan = after_call sink.plan;
  faults = faults_after sink.plan sink.faults;
}

-- a code of such folders, as their fields in pairs
abbrev pub coded_folder : Coded PlannedFolder
coded_folder =
    code_by ((Files × (List ℕ × ℕ)) × (ℕ × ℕ))
    (coded×
    (coded× coded_files (coded× (coded_list coded_ℕ) coded_ℕ))
    (coded× coded_ℕ coded_ℕ))
    (λ f. ((f.files, (f.plan.failing, f.plan.calls)), (f.read_faults, f.write_faults)))
    (λ p. record {
      files = p.0.0;
      plan = record { failing = p.0.1.0; calls = p.0.1.1 };
      read_faults = p.1.0;
      write_faults = p.1.1;
    })
    (λ _. refl)
